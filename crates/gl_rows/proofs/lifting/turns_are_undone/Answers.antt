-- The numbers are printed.
use Rattle.std.proofs.Common.{refl}
use Rattle.std.specs.Fmt.{digits}
use Rattle.gl_rows.proofs.lifting.turns_are_undone.Goals as goal

pub returns : goal.returns
unfolding digits
returns c = record { exchanged = refl; restored = refl }
