-- The numbers are printed.
use Rattle.std.proofs.Common.{refl}
use Rattle.std.specs.Fmt.{digits}
use Rattle.gl_rows.proofs.lifting.top_is_lifted.Goals as goal

pub returns : goal.returns
unfolding digits
returns c = record { extracted = refl; restored = refl; no_such_top = refl }
