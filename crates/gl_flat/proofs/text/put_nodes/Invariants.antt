use Rattle.std.proofs.Common.{◌≡◌, ◌++◌, take, map}
use Rattle.gl_text.specs.Flattening.{net_name}
use Rattle.gl_card.specs.Lines.{spaced_all}
use Rattle.gl_flat.proofs.text.put_nodes.Given as goal

abbrev pub invariant-loop-net : goal.invariant-loop-net
invariant-loop-net l = l.out.items ≡ l.fn.out.items ++ spaced_all (map net_name (take l.net-index l.nets))
