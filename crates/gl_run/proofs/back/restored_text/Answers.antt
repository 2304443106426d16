use Rattle.std.proofs.Common.{inl, inr}
use Rattle.gl_lifting.specs.Renaming.{restore}
use Rattle.gl_restore.specs.Refusals.{fault_of}
use Rattle.gl_restore.specs.Texts.{fault_text, limit_text}
use Rattle.gl_restore.specs.TooLong.{text_within, limit_of}
use Rattle.gl_job.specs.declared.kind.Kind.TheVariants as kinds
use Rattle.gl_job.proofs.Points.{end_refuses}
use Rattle.gl_run.proofs.back.restored_text.Goals as goal

pub returns-in-Err-clause-refused : goal.returns-in-Err-clause-refused
returns-in-Err-clause-refused c = inl (end_refuses kinds.Map fault_text (fault_of c.in-Err.fault) (restore c.args.flat.now c.args.names.now) c.in-Err.ensures.restored)

pub returns-clause-refused : goal.returns-clause-refused
returns-clause-refused c = inr (record {
  restored = c.in-Ok.restored;
  restored_is = c.in-Ok.ensures.restored;
  refuses = end_refuses kinds.Limit limit_text (limit_of c.in-Err-text.fault) (text_within c.in-Ok.restored) c.in-Err-text.ensures.text;
})

pub returns-in-Ok-text-clause-text : goal.returns-in-Ok-text-clause-text
returns-in-Ok-text-clause-text c = record { restored = c.in-Ok.restored; restored_is = c.in-Ok.ensures.restored; text_is = c.in-Ok-text.ensures.text }
