use Rattle.std.proofs.Common.{◌≡◌, take, map}
use Rattle.gl_base.specs.BaseCircuit.{net_number}
use Rattle.gl_lib.proofs.devices.numbers_of.Given as goal

abbrev pub invariant-loop-name : goal.invariant-loop-name
invariant-loop-name l = l.numbers.items ≡ map (net_number l.nets) (take l.name-index l.names)
