use Rattle.std.proofs.Common.{◌≡◌, take, map, Ok}
use Rattle.gl_text.specs.Flattening.{net, net_name, top_net}
use Rattle.gl_base.specs.BaseCircuit.{net_number}
use Rattle.gl_flat.specs.SeenNames.{net_names, seen_all}
use Rattle.gl_flat.proofs.number.number_top_nets.Given as goal

abbrev pub invariant-loop-name : goal.invariant-loop-name
invariant-loop-name l = record {
  seen : seen_all l.fn.seen (map net (map top_net (take l.name-index l.names))) ≡ Ok l.seen;
  numbers : l.numbers.items ≡ map (λ n. net_number (net_names l.seen) (net_name n)) (map top_net (take l.name-index l.names));
}
