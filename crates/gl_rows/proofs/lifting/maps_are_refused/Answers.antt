-- The numbers are printed.
use Rattle.std.proofs.Common.{refl}
use Rattle.std.specs.Fmt.{digits}
use Rattle.gl_rows.proofs.lifting.maps_are_refused.Goals as goal

pub returns : goal.returns
unfolding digits
returns c = record { double_new = refl; missing = refl; net_merge = refl; device_merge = refl; extra = refl; letter = refl; no_end = refl; device_behind_net = refl; header = refl }
