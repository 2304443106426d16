use Rattle.gl_flat.specs.Refusals.{fault_of}
use Rattle.gl_fault.proofs.AnswerLaws.{passed_on}
use Rattle.gl_flat.proofs.KeptLaws.{net_kept, net_not_kept}
use Rattle.gl_flat.proofs.seen.Seen.add_nets.Goals as goal

pub loop-added-preserved : goal.loop-added-preserved
loop-added-preserved c =
    net_kept c.args.nets.now c.loop-added.added-index c.added-item.result c.args.self.now c.loop-added.self c.add_dotted_net.new.self c.loop-added-test.true c.added-item.is c.loop-added.invariant c.in_ok-add_dotted_net.ensures.ok

pub returns-in_err-add_dotted_net-clause-refused : goal.returns-in_err-add_dotted_net-clause-refused
returns-in_err-add_dotted_net-clause-refused c =
    passed_on fault_of c.from_residual.result c.in_err-add_dotted_net.field-0.0 _ c.from_residual.ensures.1
    (net_not_kept (fault_of c.in_err-add_dotted_net.field-0.0) c.args.nets.now c.loop-added.added-index c.added-item.result c.args.self.now c.loop-added.self c.loop-added-test.true c.added-item.is c.loop-added.invariant c.in_err-add_dotted_net.ensures.refused)
