use Rattle.std.proofs.Common.{◌++◌}
use Rattle.gl_text.specs.Flattening.{top_ports}
use Rattle.gl_lib.proofs.SoundLaws.{circuit_sound, circuit_small}
use Rattle.gl_lib.proofs.LevelLaws.{all_fit}
use Rattle.gl_lib.proofs.laws.runs_are_sound.Goals as goal

pub returns : goal.returns
returns c = record {
  circuit = λ f library keep is. circuit_sound f library is (top_ports f.top ++ keep);
  size = λ f library keep is. circuit_small f library is (top_ports f.top ++ keep);
  cells = λ f library keep is. all_fit f library is (top_ports f.top ++ keep);
}
