-- The numbers are printed.
use Rattle.std.proofs.Common.{refl}
use Rattle.std.specs.Fmt.{digits}
use Rattle.gl_rows.proofs.linked.links_hold_on_rows.Goals as goal

pub returns : goal.returns
unfolding digits
returns c = record { exchanged = (refl, refl); latch = (refl, refl); three_in_parallel = (refl, refl) }
