use Rattle.gl_lifting.specs.MapReading.{read_map}
use Rattle.gl_map.specs.Refusals.{fault_of}
use Rattle.gl_map.specs.Texts.{fault_text}
use Rattle.gl_job.specs.declared.kind.Kind.TheVariants as kinds
use Rattle.gl_job.proofs.Points.{end_refuses}
use Rattle.gl_run.proofs.back.map_of.Goals as goal

pub returns-in-Err-clause-refused : goal.returns-in-Err-clause-refused
returns-in-Err-clause-refused c = end_refuses kinds.Map fault_text (fault_of c.in-Err.fault) (read_map c.args.bytes.now) c.in-Err.ensures.read
