use Rattle.std.proofs.Common.{◌≡◌, take, map}
use Rattle.gl_text.specs.Flattening.{net_name, top_net}
use Rattle.gl_card.specs.Lines.{spaced_all}
use Rattle.gl_flat.specs.Lengths.{after}
use Rattle.gl_flat.proofs.length.add_top_nodes.Given as goal

abbrev pub invariant-loop-name : goal.invariant-loop-name
invariant-loop-name l = l.sum ≡ after l.total (spaced_all (map net_name (map top_net (take l.name-index l.names))))
