-- The numbers are printed.
use Rattle.std.proofs.Common.{refl}
use Rattle.std.specs.Fmt.{digits}
use Rattle.gl_rows.proofs.limits.each_limit_of_lifting.Goals as goal

pub returns : goal.returns
unfolding digits
returns c = record { none = refl; name = refl; cards = refl; lifted_text = refl; lifted_flat = refl; flat_above = refl; map_text = refl; map_above = refl; report_text = refl; report_above = refl }
