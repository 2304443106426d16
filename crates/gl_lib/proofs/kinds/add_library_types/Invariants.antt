use Rattle.std.proofs.Common.{◌≡◌, drop, map}
use Rattle.indexmap.specs.IndexMap.{get}
use Rattle.indexmap.specs.IndexSet.{insert_all}
use Rattle.gl_text.specs.LogicalLines.{same_text}
use Rattle.gl_base.specs.TypeNames.{same_type, type_by}
use Rattle.gl_lib.specs.Sources.{cards_of_cells}
use Rattle.gl_lib.proofs.kinds.add_library_types.Given as goal

abbrev pub invariant-loop-cell : goal.invariant-loop-cell
invariant-loop-cell l = insert_all same_type l.set.keys (map (type_by (get same_text l.words)) (cards_of_cells (drop l.cell-index l.cells))) ≡ insert_all same_type l.initial.set.keys (map (type_by (get same_text l.words)) (cards_of_cells l.cells))
