-- The numbers are printed.
use Rattle.std.proofs.Common.{refl}
use Rattle.std.specs.Fmt.{digits}
use Rattle.gl_rows.proofs.reports.library_refusals_in_order.Goals as goal

pub returns : goal.returns
unfolding digits
returns c = record { card_at_the_top = refl; clash_in_a_cell = refl; top_before_clash = refl; clash_in_a_skipped_cell = refl; no_clash_between_cells = refl; limit_of_a_later_cell_before_a_clash = refl; cards_before_ports_in_one_cell = refl; earlier_cell_before_later_limit = refl }
