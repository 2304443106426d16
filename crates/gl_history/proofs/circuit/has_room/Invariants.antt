use Rattle.std.proofs.Common.{◌≡◌, ◌+◌, drop}
use Rattle.gl_graph.specs.Built.{count_places}
use Rattle.gl_history.proofs.circuit.has_room.Given as goal

abbrev pub invariant-loop-device : goal.invariant-loop-device
invariant-loop-device l = count_places (drop l.device-index l.devices) + l.initial.left ≡ count_places l.devices + l.left
