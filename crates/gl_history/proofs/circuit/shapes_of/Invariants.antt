use Rattle.std.proofs.Common.{◌≡◌, take}
use Rattle.gl_history.proofs.circuit.shapes_of.Given as goal

abbrev pub invariant-loop-kind : goal.invariant-loop-kind
invariant-loop-kind l = l.shapes.items ≡ take l.kind l.circuit.shapes
