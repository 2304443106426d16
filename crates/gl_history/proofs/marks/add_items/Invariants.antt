use Rattle.std.proofs.Common.{◌≡◌, ◌++◌, List, length, take}
use Rattle.std.specs.Prelude.{filter_map, zip}
use Rattle.gl_history.specs.Replacing.{Chosen, chosen_at}
use Rattle.gl_history.specs.Marks.{IsMarked}
use Rattle.gl_history.proofs.marks.add_items.Given as goal

abbrev pub invariant-loop-i : goal.invariant-loop-i
invariant-loop-i l = record {
  marked : (before : List Chosen) → IsMarked before l.fn.marks.fates.items l.fn.marks.slots.items
      → IsMarked (before ++ filter_map (chosen_at l.kind) (take l.i (zip l.list l.picks))) l.marks.fates.items l.marks.slots.items;
  devices : length l.marks.fates.items ≡ length l.fn.marks.fates.items;
}
