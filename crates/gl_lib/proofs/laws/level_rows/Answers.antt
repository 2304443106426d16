use Rattle.gl_lib.proofs.SampleLaws.{sample_sound}
use Rattle.gl_lib.proofs.laws.level_rows.Goals as goal

pub returns-clause-sound : goal.returns-clause-sound
returns-clause-sound c = sample_sound
