use Rattle.std.proofs.Common.{◌≡◌, take, map}
use Rattle.gl_card.specs.Lines.{spaced_all}
use Rattle.gl_base.specs.Reports.{name_at}
use Rattle.gl_flat.specs.Lengths.{after}
use Rattle.gl_named.proofs.length.add_nodes.Given as goal

abbrev pub invariant-loop-node : goal.invariant-loop-node
invariant-loop-node l = l.sum ≡ after l.total (spaced_all (map (name_at l.nets) (take l.node-index l.nodes)))
