use Rattle.gl_text.specs.Flattening.{bearers}
use Rattle.gl_flat.specs.Refusals.{fault_of}
use Rattle.gl_flat.proofs.KeptLaws.{kept_added, kept_refused}
use Rattle.gl_fault.proofs.AnswerLaws.{passed_on}
use Rattle.gl_flat.proofs.seen.Seen.add_all.Goals as goal

pub loop-added-preserved : goal.loop-added-preserved
loop-added-preserved c =
    kept_added bearers c.args.devices.now c.loop-added.added-index c.added-item.result c.args.self.now c.loop-added.self c.add_bearers.new.self c.loop-added-test.true c.added-item.is c.loop-added.invariant c.in_ok-add_bearers.ensures.ok

pub returns-in_err-add_bearers-clause-refused : goal.returns-in_err-add_bearers-clause-refused
returns-in_err-add_bearers-clause-refused c =
    passed_on fault_of c.from_residual.result c.in_err-add_bearers.field-0.0 _ c.from_residual.ensures.1
    (kept_refused (fault_of c.in_err-add_bearers.field-0.0) bearers c.args.devices.now c.loop-added.added-index c.added-item.result c.args.self.now c.loop-added.self c.loop-added-test.true c.added-item.is c.loop-added.invariant c.in_err-add_bearers.ensures.refused)
