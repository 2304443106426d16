use Rattle.gl_fault.proofs.AnswerLaws.{gives_of_refusal}
use Rattle.gl_restore.specs.Refusals.{fault_of}
use Rattle.gl_restore.specs.declared.fault.RestoreFault.TheVariants.{Memory}
use Rattle.gl_restore.proofs.restored.restore.Goals as goal

pub returns-in_err-restored-clause-restored : goal.returns-in_err-restored-clause-restored
returns-in_err-restored-clause-restored c = gives_of_refusal fault_of _ c.from_residual.result c.in_err-restored.field-0.0 _ c.from_residual.ensures.1 c.in_err-restored.ensures.restored

pub returns-in_err-print-clause-restored : goal.returns-in_err-print-clause-restored
returns-in_err-print-clause-restored c = gives_of_refusal fault_of _ c.from_residual-in_err-print.result Memory _ c.from_residual-in_err-print.ensures.1 tt

pub returns-clause-restored : goal.returns-clause-restored
returns-clause-restored c = (_, c.in_ok-restored.ensures.restored, c.in_ok-print.ensures.printed)
