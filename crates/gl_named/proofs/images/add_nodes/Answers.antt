use Rattle.std.proofs.Common.{map}
use Rattle.std.specs.Prelude.{slice_index}
use Rattle.std.proofs.lemmas.Slice.Zip.{either_empty_from_Zip}
use Rattle.gl_base.specs.BaseCircuit.{net_number}
use Rattle.gl_found.proofs.ZipLaws.{zip_none}
use Rattle.gl_named.proofs.FirstLaws.{rest_none, both_empty}
use Rattle.gl_named.proofs.images.add_nodes.Goals as goal

pub returns : goal.returns
returns c =
    let nodes = c.loop-node.node-iterator.a.rest.now in
    let turn = c.loop-node.node-iterator.b.rest.now in
    let number = net_number c.args.nets.now.keys in
    let net = slice_index c.args.image.now in
    let done = zip_none (map number nodes) (map net turn) (both_empty number net nodes turn (either_empty_from_Zip c.loop-node.node-iterator c.next.new.self c.next.result c.in-None.is c.next.ensures.steps)) in
    record { added = λ n. rest_none c.loop-node.images.items _ _ n done (c.loop-node.invariant n) }
