use Rattle.gl_rows.proofs.SourceLaws.{pass_gate_is}
use Rattle.gl_rows.proofs.circuits.pass_gate_rows.Goals as goal

pub returns-clause-sound : goal.returns-clause-sound
returns-clause-sound c = pass_gate_is
