use Rattle.std.proofs.Common.{◌≡◌, drop}
use Rattle.gl_graph.specs.Faults.{first_in, pin_fault}
use Rattle.gl_graph.proofs.checks.check_pins.Given as goal

abbrev pub invariant-loop-index : goal.invariant-loop-index
invariant-loop-index l = first_in (pin_fault l.nets) l.index (drop l.index l.pinned) ≡ first_in (pin_fault l.nets) 0 l.pinned
