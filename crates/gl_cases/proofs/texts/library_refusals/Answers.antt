-- The numbers are printed.
use Rattle.std.proofs.Common.{refl}
use Rattle.std.specs.Fmt.{digits}
use Rattle.gl_cases.proofs.texts.library_refusals.Goals as goal

pub returns : goal.returns
unfolding digits
returns c = record { refused_reading = refl; top_card = refl; cells = refl; devices = refl; ports = refl; level = refl; flat = refl; clash = refl }
