use Rattle.gl_flat.specs.Refusals.{fault_of}
use Rattle.gl_fault.proofs.AnswerLaws.{passed_on}
use Rattle.gl_flat.proofs.KeptLaws.{top_kept, top_not_kept}
use Rattle.gl_flat.proofs.seen.Seen.add_top_nets.Goals as goal

pub loop-name-preserved : goal.loop-name-preserved
loop-name-preserved c =
    top_kept c.args.names.now c.loop-name.name-index c.name-item.result c.of_top.result c.args.self.now c.loop-name.self c.add_dotted_net-in-loop-name.new.self c.loop-name-test.true c.name-item.is c.of_top.ensures.net c.loop-name.invariant c.in_ok-add_dotted_net.ensures.ok

pub returns-in_err-add_dotted_net-clause-refused : goal.returns-in_err-add_dotted_net-clause-refused
returns-in_err-add_dotted_net-clause-refused c =
    passed_on fault_of c.from_residual.result c.in_err-add_dotted_net.field-0.0 _ c.from_residual.ensures.1
    (top_not_kept (fault_of c.in_err-add_dotted_net.field-0.0) c.args.names.now c.loop-name.name-index c.name-item.result c.of_top.result c.args.self.now c.loop-name.self c.loop-name-test.true c.name-item.is c.of_top.ensures.net c.loop-name.invariant c.in_err-add_dotted_net.ensures.refused)
