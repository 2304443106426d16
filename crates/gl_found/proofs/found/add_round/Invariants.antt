use Rattle.std.proofs.Common.{◌≡◌, ◌++◌, take}
use Rattle.std.specs.Prelude.{flat_map}
use Rattle.gl_found.specs.Founds.{found_of}
use Rattle.gl_found.proofs.found.add_round.Given as goal

abbrev pub invariant-loop-cell : goal.invariant-loop-cell
invariant-loop-cell l = l.found.items ≡ l.fn.found.items ++ flat_map (found_of l.round.circuit l.round.origins) (take l.cell-index l.round.cells)
