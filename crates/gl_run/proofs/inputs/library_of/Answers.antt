use Rattle.gl_base.specs.Libraries.{read_library}
use Rattle.gl_cells.specs.Causes.{cause_of}
use Rattle.gl_job.specs.declared.kind.Kind.TheVariants as kinds
use Rattle.gl_job.proofs.Points.{end_refuses}
use Rattle.gl_cells.specs.Texts.{cell_text}
use Rattle.gl_run.proofs.inputs.library_of.Goals as goal

pub returns-in-Err-clause-refused : goal.returns-in-Err-clause-refused
returns-in-Err-clause-refused c = end_refuses kinds.Library cell_text (cause_of c.in-Err.fault) (read_library c.args.bytes.now) c.in-Err.ensures.reads
