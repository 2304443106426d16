use Rattle.std.proofs.Common.{◌≡◌, take, map, Ok}
use Rattle.gl_text.specs.Flattening.{net, net_name}
use Rattle.gl_base.specs.BaseCircuit.{net_number}
use Rattle.gl_flat.specs.SeenNames.{net_names, seen_all}
use Rattle.gl_flat.proofs.number.number_nets.Given as goal

abbrev pub invariant-loop-net : goal.invariant-loop-net
invariant-loop-net l = record {
  seen : seen_all l.fn.seen (map net (take l.net-index l.nets)) ≡ Ok l.seen;
  numbers : l.numbers.items ≡ map (λ n. net_number (net_names l.seen) (net_name n)) (take l.net-index l.nets);
}
