-- Numbers are printed, and keys are looked for.
use Rattle.std.proofs.Common.{refl}
use Rattle.std.specs.Fmt.{digits}
use Rattle.gl_probe.specs.Keys.{key_in}
use Rattle.gl_probe.proofs.rows.key_lines.Goals as goal

pub returns : goal.returns
unfolding digits key_in
returns c = record { inner_net = refl; deeper = refl; device = refl; none = refl }
