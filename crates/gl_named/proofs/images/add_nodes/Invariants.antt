use Rattle.std.proofs.Common.{◌≡◌, ℕ, map}
use Rattle.std.specs.Prelude.{zip, slice_index}
use Rattle.std.specs.Option.{option_or}
use Rattle.gl_base.specs.BaseCircuit.{net_number}
use Rattle.gl_lifting.specs.NameMaps.{under}
use Rattle.gl_named.specs.Firsts.{at_number}
use Rattle.gl_named.proofs.images.add_nodes.Given as goal

abbrev pub invariant-loop-node : goal.invariant-loop-node
invariant-loop-node l = (n : ℕ) → option_or (at_number l.images.items n) (under (zip (map (net_number l.nets.keys) l.node-iterator.a.rest.now) (map (slice_index l.image) l.node-iterator.b.rest.now)) n)
    ≡ option_or (at_number l.fn.images.items n) (under (zip (map (net_number l.nets.keys) l.nodes) (map (slice_index l.image) l.turn)) n)
