use Rattle.std.proofs.Common.{◌≡◌, ◌++◌, take, map}
use Rattle.gl_text.specs.Flattening.{net_name, top_net}
use Rattle.gl_card.specs.Lines.{spaced_all}
use Rattle.gl_flat.proofs.text.put_top_nodes.Given as goal

abbrev pub invariant-loop-name : goal.invariant-loop-name
invariant-loop-name l = l.out.items ≡ l.fn.out.items ++ spaced_all (map net_name (map top_net (take l.name-index l.names)))
