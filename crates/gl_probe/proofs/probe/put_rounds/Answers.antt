use Rattle.std.proofs.Common.{arith}
use Rattle.gl_card.proofs.PrintLaws.{front_stays}
use Rattle.gl_probe.specs.Shown.{shown_round}
use Rattle.gl_probe.proofs.LoopLaws.{numbered_turn, numbered_all}
use Rattle.gl_probe.proofs.probe.put_rounds.Goals as goal

pub loop-level-preserved : goal.loop-level-preserved
loop-level-preserved c =
    let each = shown_round c.args.subs.now c.args.cells.now in
    numbered_turn each c.args.rounds.now c.loop-level.level c.index-rounds-level.result c.args.out.now.items c.loop-level.out.items c.put_round.new.out.items c.loop-level-test.true c.index-rounds-level.is c.loop-level.invariant c.in_ok-put_round.ensures.ok

pub returns-in_err-put_round-clause-front : goal.returns-in_err-put_round-clause-front
returns-in_err-put_round-clause-front c = front_stays c.args.out.now.items _ _ _ c.loop-level.invariant c.in_err-put_round.ensures.front

pub returns-clause-ok : goal.returns-clause-ok
returns-clause-ok c = numbered_all (shown_round c.args.subs.now c.args.cells.now) c.args.rounds.now c.loop-level.level c.args.out.now.items c.loop-level.out.items (omega arith) c.loop-level.invariant
