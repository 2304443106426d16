use Rattle.std.proofs.Common.{◌≡◌, ◌++◌}
use Rattle.std.specs.Prelude.{filter_map, zip}
use Rattle.gl_found.specs.Founds.{found_at, found_of}
use Rattle.gl_found.proofs.found.add_cell.Given as goal

abbrev pub invariant-loop-instance : goal.invariant-loop-instance
invariant-loop-instance l = l.found.items ++ filter_map (found_at l.round.circuit l.round.origins l.cell.cell) (zip l.instance-iterator.a.rest.now l.instance-iterator.b.rest.now) ≡ l.fn.found.items ++ found_of l.round.circuit l.round.origins l.cell
