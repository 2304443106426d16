-- The numbers are printed.
use Rattle.std.proofs.Common.{refl}
use Rattle.std.specs.Fmt.{digits}
use Rattle.gl_rows.proofs.reports.stem_reports.Goals as goal

pub returns : goal.returns
unfolding digits
returns c = record { names_with_the_stem = (refl, refl); x_card_with_the_stem = (refl, refl); rail_of_the_library_with_the_stem = (refl, refl); names_of_cells_models_and_empty_calls_do_not_count = (refl, refl); unused = refl; other_letters = refl; the_name_itself = refl; dotted = refl; underscore = refl; in_the_middle = refl; several = refl }
