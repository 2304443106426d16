-- The numbers are printed.
use Rattle.std.proofs.Common.{refl}
use Rattle.std.specs.Fmt.{digits}
use Rattle.gl_rows.proofs.lifting.kept_nets_are_not_inner.Goals as goal

pub returns : goal.returns
unfolding digits
returns c = record { inner_net_alone = refl; place_outside = refl; inner_net_kept = refl; unknown_name = refl }
