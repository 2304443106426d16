use Rattle.gl_lib.proofs.SampleLaws.{sample_is, library_is}
use Rattle.gl_lib.proofs.laws.sample_files_are_sound.Goals as goal

pub returns : goal.returns
returns c = record { deck = sample_is; library = library_is }
