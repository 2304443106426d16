-- The numbers are printed.
use Rattle.std.proofs.Common.{refl}
use Rattle.std.specs.Fmt.{digits}
use Rattle.gl_rows.proofs.reports.rail_and_port_reports.Goals as goal

pub returns : goal.returns
unfolding digits
returns c = record { port_named_as_a_rail = (refl, refl); port_named_as_a_rail_goes_nowhere_else = (refl, refl); port_named_as_a_rail_of_the_deck = (refl, refl); port_named_as_no_rail = (refl, refl); port_on_an_unused_rail = (refl, refl); no_ports = (refl, refl); rail_of_the_deck_in_a_cell = (refl, refl); inner_net_of_that_name = (refl, refl); inner_net_may_not_be_a_rail = (refl, refl); rail_of_the_library_below_the_top = (refl, refl); no_rail_below_the_top = (refl, refl); rail_on_no_device = (refl, refl); supply_ports = (refl, refl); clash_by_the_library_rails = refl; rails_of_both = refl }
