use Rattle.std.proofs.Common.{◌≡◌, ◌++◌, take, map}
use Rattle.gl_base.specs.TypeNames.{classes_of}
use Rattle.gl_lifting.specs.Runs.{cell_type}
use Rattle.gl_lib.proofs.shapes.shapes_of.Given as goal

abbrev pub invariant-loop-cell : goal.invariant-loop-cell
invariant-loop-cell l = l.shapes.items ≡ map classes_of (l.kinds ++ map cell_type (take l.cell-index l.cells))
