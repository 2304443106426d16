use Rattle.indexmap.specs.IndexMap.{get}
use Rattle.gl_text.specs.LogicalLines.{same_text}
use Rattle.gl_base.specs.TypeNames.{type_by}
use Rattle.gl_lib.proofs.KindLaws.{cells_step, cells_done}
use Rattle.gl_lib.proofs.kinds.add_library_types.Goals as goal

pub returns : goal.returns
returns c = record { added = cells_done (type_by (get same_text c.args.words.now)) _ _ _ _ c.loop-cell-test.false c.loop-cell.invariant }

pub loop-cell-preserved : goal.loop-cell-preserved
loop-cell-preserved c =
    cells_step (type_by (get same_text c.args.words.now)) _ _ _ _ c.cell-item.result _ c.loop-cell-test.true c.cell-item.is c.in_ok-add_cell_types.ensures.added c.loop-cell.invariant
