use Rattle.std.proofs.Common.{map, take}
use Rattle.gl_named.specs.Firsts.{at_number, Adds}
use Rattle.gl_named.specs.Walks.{net_row}
use Rattle.gl_named.proofs.renames.add_nets.Given as goal

abbrev pub invariant-loop-number : goal.invariant-loop-number
invariant-loop-number l = Adds l.fn.names.items l.names.items (map (net_row l.way (at_number l.images)) (take l.number-index l.nets))
