use Rattle.std.proofs.Common.{◌∙◌, ◌++◌, List, take, subst, arith}
use Rattle.std.specs.Prelude.{flat_map}
use Rattle.std.proofs.lemmas.List.{take_all}
use Rattle.gl_history.specs.Replacing.{Chosen, chosen_of_cell}
use Rattle.gl_history.specs.Marks.{IsMarked}
use Rattle.gl_history.proofs.ListLaws.{flat_more}
use Rattle.gl_history.proofs.marks.add_round.Goals as goal

pub loop-f-preserved : goal.loop-f-preserved
loop-f-preserved c =
    let found = c.args.found.now in
    let i = c.loop-f.f-index in
    let f = chosen_of_cell c.args.cells.now in
    let next = c.add_cell.new.marks in
    record {
      marked = λ before m. subst (λ (cs : List Chosen). IsMarked cs next.fates.items next.slots.items)
          (flat_more f before found i c.f-item.result c.loop-f-test.true c.f-item.is)
          (c.in_ok-add_cell.ensures.marked (before ++ flat_map f (take i found)) (c.loop-f.invariant.marked before m));
      devices = c.add_cell.ensures.devices ∙ c.loop-f.invariant.devices;
    }

pub returns-clause-marked : goal.returns-clause-marked
returns-clause-marked c = λ before m.
    let found = c.args.found.now in
    let now = c.loop-f.marks in
    subst (λ xs. IsMarked (before ++ flat_map (chosen_of_cell c.args.cells.now) xs) now.fates.items now.slots.items) (take_all c.loop-f.f-index found (omega arith)) (c.loop-f.invariant.marked before m)
