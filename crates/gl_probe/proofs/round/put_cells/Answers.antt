use Rattle.std.proofs.Common.{◌≡◌, ◌∙◌, ◌++◌, [], ◌∷◌, length, sym, subst}
use Rattle.std.proofs.lemmas.List.{length_push}
use Rattle.std.proofs.lemmas.List.Elements.{All-get_or}
use Rattle.std.proofs.lemmas.Slice.Zip.{zip_turn, zip_end}
use Rattle.gl_match.specs.Cells.{Cell}
use Rattle.gl_graph.specs.FitCells.{IsForCircuit}
use Rattle.gl_history.specs.Searching.{pattern_at}
use Rattle.gl_card.proofs.PrintLaws.{front_stays}
use Rattle.gl_probe.specs.Shown.{shown_line, IsDeepFor}
use Rattle.gl_probe.proofs.LoopLaws.{pair_turn, pair_all}
use Rattle.gl_probe.proofs.round.put_cells.Goals as goal

pub put_cell-requires : goal.put_cell-requires
put_cell-requires c =
    let subs = c.args.subs.now in
    let cells = c.args.cells.now in
    let round = c.args.round.now in
    let k = length c.loop-sub.yielded in
    let own = c.in-Some.cell.now in
    let turn = zip_turn subs cells c.loop-sub.yielded c.into_iter-sub-iterator.result c.loop-sub.sub-iterator c.next.new.self c.next.result (cc) (cc) c.loop-sub.yielded_by (c.in-Some.sub, c.in-Some.cell) c.in-Some.is c.next.ensures.steps in
    let is = sym (turn.3 own) in
    record {
      labels = c.requires.labels;
      fits = subst (IsForCircuit round.circuit.now) is (All-get_or (IsForCircuit round.circuit.now) cells k own turn.1 c.requires.fits);
      deep = subst (λ (x : Cell). IsDeepFor round.labels.now.deepest (pattern_at round.level x)) is (All-get_or (λ (x : Cell). IsDeepFor round.labels.now.deepest (pattern_at round.level x)) cells k own turn.1 c.requires.deep);
    }

pub loop-sub-preserved : goal.loop-sub-preserved
loop-sub-preserved c =
    let subs = c.args.subs.now in
    let cells = c.args.cells.now in
    let k = length c.loop-sub.yielded in
    let turn = zip_turn subs cells c.loop-sub.yielded c.into_iter-sub-iterator.result c.loop-sub.sub-iterator c.next.new.self c.next.result (cc) (cc) c.loop-sub.yielded_by (c.in-Some.sub, c.in-Some.cell) c.in-Some.is c.next.ensures.steps in
    let next = length_push c.loop-sub.yielded (c.in-Some.sub, c.in-Some.cell) in
    pair_turn (shown_line c.args.round.now.level c.args.round.now.circuit.now) subs cells k (length (c.loop-sub.yielded ++ (c.in-Some.sub, c.in-Some.cell) ∷ [])) c.in-Some.sub.now c.in-Some.cell.now c.args.out.now.items c.loop-sub.out.items c.put_cell.new.out.items
    turn.0 turn.1 next (turn.2 c.in-Some.sub.now) (turn.3 c.in-Some.cell.now) c.loop-sub.invariant c.in_ok-put_cell.ensures.ok

pub returns-in_err-put_cell-clause-front : goal.returns-in_err-put_cell-clause-front
returns-in_err-put_cell-clause-front c = front_stays c.args.out.now.items _ _ _ c.loop-sub.invariant c.in_err-put_cell.ensures.front

pub returns-clause-ok : goal.returns-clause-ok
returns-clause-ok c =
    let subs = c.args.subs.now in
    let cells = c.args.cells.now in
    let all = zip_end subs cells c.loop-sub.yielded c.into_iter-sub-iterator.result c.loop-sub.sub-iterator c.next.new.self c.next.result (cc) (cc) c.loop-sub.yielded_by c.in-None.is c.next.ensures.steps in
    pair_all (shown_line c.args.round.now.level c.args.round.now.circuit.now) subs cells (length c.loop-sub.yielded) c.args.out.now.items c.loop-sub.out.items all c.loop-sub.invariant
