use Rattle.std.proofs.Common.{◌≡◌, ◌++◌, List, length, take}
use Rattle.gl_history.specs.Replacing.{Chosen, chosen_of}
use Rattle.gl_history.specs.Marks.{IsMarked}
use Rattle.gl_history.proofs.marks.add_round.Given as goal

abbrev pub invariant-loop-f : goal.invariant-loop-f
invariant-loop-f l = record {
  marked : (before : List Chosen) → IsMarked before l.fn.marks.fates.items l.fn.marks.slots.items
      → IsMarked (before ++ chosen_of l.cells (take l.f-index l.found)) l.marks.fates.items l.marks.slots.items;
  devices : length l.marks.fates.items ≡ length l.fn.marks.fates.items;
}
