use Rattle.std.proofs.Common.{◌≡◌, length, take, drop}
use Rattle.gl_match.specs.Graph.{is_in}
use Rattle.gl_graph.specs.Faults.{first_in, port_fault}
use Rattle.gl_graph.specs.Kept.{IsTable}
use Rattle.gl_graph.proofs.roles.check_ports.Given as goal

abbrev pub invariant-loop-index : goal.invariant-loop-index
invariant-loop-index l = record {
  count : length l.seen.items ≡ l.nets;
  seen : IsTable (is_in (take l.index l.ports)) l.nets l.seen.items;
  fault : first_in (port_fault l.nets l.ports) l.index (drop l.index l.ports) ≡ first_in (port_fault l.nets l.ports) 0 l.ports;
}
