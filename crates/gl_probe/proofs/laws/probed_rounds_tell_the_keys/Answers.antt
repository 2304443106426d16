use Rattle.gl_lifting.specs.Histories.{circuit_at}
use Rattle.gl_lifting.specs.Runs.{searched_at}
use Rattle.gl_probe.proofs.KeyLaws.{keys_told}
use Rattle.gl_probe.proofs.laws.probed_rounds_tell_the_keys.Goals as goal

pub returns : goal.returns
returns c = record { lines = λ run level told built patterns. keys_told run level (circuit_at run told.before) (searched_at run level) built patterns }
