-- The numbers are printed.
use Rattle.std.proofs.Common.{refl}
use Rattle.std.specs.Fmt.{digits}
use Rattle.gl_rows.proofs.reports.several_cells_reports.Goals as goal

pub returns : goal.returns
unfolding digits
returns c = record { overlap_inverter_first = (refl, refl); overlap_nand_first = (refl, refl); skipped_before_searched = (refl, refl); skipped_and_empty_lists_between = (refl, refl); numbers_run_on_over_lists = (refl, refl); second_list_takes_the_next_number = (refl, refl); over_a_later_number_alone = (refl, refl); over_number_one_though_number_two_has_the_first_device = (refl, refl); library_without_cells = (refl, refl); nothing_at_all = (refl, refl); all_cells_skipped = (refl, refl); cell_named_as_a_device = (refl, refl) }
