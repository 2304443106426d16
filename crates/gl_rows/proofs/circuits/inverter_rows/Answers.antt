use Rattle.gl_rows.proofs.SourceLaws.{inverter_is}
use Rattle.gl_rows.proofs.circuits.inverter_rows.Goals as goal

pub returns-clause-sound : goal.returns-clause-sound
returns-clause-sound c = inverter_is
