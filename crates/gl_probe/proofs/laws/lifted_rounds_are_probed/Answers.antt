use Rattle.gl_probe.proofs.RoundLaws.{probe_is, all_fit}
use Rattle.gl_probe.proofs.laws.lifted_rounds_are_probed.Goals as goal

pub returns : goal.returns
returns c = record { probe = probe_is; fits = all_fit }
