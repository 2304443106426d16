use Rattle.std.proofs.Common.{◌∙◌, ◌+◌, ◌++◌, List, ℕ, drop, ap}
use Rattle.std.proofs.Math.Path.{subst}
use Rattle.gl_limit.specs.Bounds.{Tells}
use Rattle.gl_report.specs.Pieces.{round_text, rounds_from, rounds_text}
use Rattle.gl_report.proofs.ListLaws.{rounds_turn, told_on}
use Rattle.gl_report.proofs.report.put_rounds.Goals as goal

pub loop-level-preserved : goal.loop-level-preserved
loop-level-preserved c =
    let names = c.args.names.now in
    let library = c.args.library.now in
    let rounds = c.args.rounds.now in
    let level = c.loop-level.level in
    let behind = rounds_from names library (level + 1) (drop (level + 1) rounds) in
    ap (λ (t : List ℕ). t ++ behind) c.in_ok-put_round.ensures.ok
    ∙ rounds_turn names library rounds level c.index-rounds-level.result c.loop-level.out.items (c.args.out.now.items ++ rounds_text names library rounds) c.loop-level-test.true c.index-rounds-level.is c.loop-level.invariant

pub returns-in_err-put_round-clause-fault : goal.returns-in_err-put_round-clause-fault
returns-in_err-put_round-clause-fault c =
    let names = c.args.names.now in
    let library = c.args.library.now in
    let rounds = c.args.rounds.now in
    let level = c.loop-level.level in
    let before = c.loop-level.out.items in
    let round = c.index-rounds-level.result in
    let fault = c.in_err-put_round.field-0.0 in
    let behind = rounds_from names library (level + 1) (drop (level + 1) rounds) in
    let whole = c.args.out.now.items ++ rounds_text names library rounds in
    let turn = rounds_turn names library rounds level round before whole c.loop-level-test.true c.index-rounds-level.is c.loop-level.invariant in
    told_on c.from_residual.result fault whole c.from_residual.ensures.1
    (subst (Tells fault) turn (c.fronts_are_shorter.ensures.longer fault (before ++ round_text names library (level, round)) behind c.in_err-put_round.ensures.fault))
