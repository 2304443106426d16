use Rattle.std.proofs.Common.{◌≡◌, take, length, map}
use Rattle.std.specs.Prelude.{zip}
use Rattle.gl_lifting.specs.SearchedCells.{cell_in}
use Rattle.gl_lib.specs.Tables.{run_in}
use Rattle.gl_lib.proofs.levels.searched_cells.Given as goal

abbrev pub invariant-loop-cell : goal.invariant-loop-cell
invariant-loop-cell l = l.cells.items ≡ map (cell_in (run_in l.parts)) (take (length l.yielded) (zip l.parts.library.now.deck.subs l.parts.library.now.cells))
