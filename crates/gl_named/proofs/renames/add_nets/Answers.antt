use Rattle.gl_named.specs.Firsts.{at_number}
use Rattle.gl_named.specs.Walks.{net_row}
use Rattle.gl_named.proofs.FirstLaws.{adds_next}
use Rattle.gl_named.proofs.renames.add_nets.Goals as goal

pub loop-number-preserved : goal.loop-number-preserved
loop-number-preserved c =
    adds_next (net_row c.args.way.now (at_number c.args.images.now)) c.args.names.now.items c.loop-number.names.items c.add_net.new.names.items c.args.nets.now c.loop-number.number-index c.loop-number-item.result
    c.loop-number-test.true c.loop-number-item.is c.loop-number.invariant c.in_ok-add_net.ensures.added
