-- The numbers are printed.
use Rattle.std.proofs.Common.{refl}
use Rattle.std.specs.Fmt.{digits}
use Rattle.gl_rows.proofs.lifting.names_have_a_limit.Goals as goal

pub returns : goal.returns
unfolding digits
returns c = record { too_long = refl; longest = refl }
