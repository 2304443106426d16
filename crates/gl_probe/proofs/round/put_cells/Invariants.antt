use Rattle.std.proofs.Common.{◌≡◌, ◌++◌, length, take}
use Rattle.std.specs.Prelude.{flat_map}
use Rattle.std.specs.List.{zip}
use Rattle.gl_probe.specs.Shown.{shown_line}
use Rattle.gl_probe.proofs.round.put_cells.Given as goal

abbrev pub invariant-loop-sub : goal.invariant-loop-sub
invariant-loop-sub l = l.out.items ≡ l.fn.out.items ++ flat_map (shown_line l.round.level l.round.circuit.now) (take (length l.yielded) (zip l.subs l.cells))
