-- The numbers are printed.
use Rattle.std.proofs.Common.{refl}
use Rattle.std.specs.Fmt.{digits}
use Rattle.gl_rows.proofs.reports.type_reports.Goals as goal

pub returns : goal.returns
unfolding digits
returns c = record { model_of_the_deck_first = (refl, refl); models_that_nothing_defines = (refl, refl); letters_differ = (refl, refl) }
