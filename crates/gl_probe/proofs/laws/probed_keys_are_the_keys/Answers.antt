use Rattle.gl_probe.proofs.KeyLaws.{key_found, key_told, key_there}
use Rattle.gl_probe.proofs.laws.probed_keys_are_the_keys.Goals as goal

pub returns-clause-keys : goal.returns-clause-keys
returns-clause-keys z = λ c p k bc bp. (λ e. key_told c p k bc bp e, λ h. key_found c p k bc bp h)

pub returns-clause-exists : goal.returns-clause-exists
returns-clause-exists z = key_there
