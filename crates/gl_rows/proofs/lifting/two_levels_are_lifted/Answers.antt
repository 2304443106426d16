-- The numbers are printed.
use Rattle.std.proofs.Common.{refl}
use Rattle.std.specs.Fmt.{digits}
use Rattle.gl_rows.proofs.lifting.two_levels_are_lifted.Goals as goal

pub returns : goal.returns
unfolding digits
returns c = record { latch = refl; restored = refl }
