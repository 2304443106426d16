-- The numbers are printed.
use Rattle.std.proofs.Common.{refl}
use Rattle.std.specs.Fmt.{digits}
use Rattle.gl_rows.proofs.linked.origins_are_told_on_rows.Goals as goal

pub returns : goal.returns
unfolding digits
returns c = record { origins = refl; variants = refl }
