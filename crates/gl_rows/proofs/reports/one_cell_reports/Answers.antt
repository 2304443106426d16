-- The numbers are printed.
use Rattle.std.proofs.Common.{refl}
use Rattle.std.specs.Fmt.{digits}
use Rattle.gl_rows.proofs.reports.one_cell_reports.Goals as goal

pub returns : goal.returns
unfolding digits
returns c = record { one_inverter = (refl, refl); no_bytes = (refl, refl); ring_of_shared_nets = (refl, refl); two_sizes = (refl, refl); ends_exchanged = (refl, refl); inner_net_with_a_place_outside = (refl, refl); inner_net_alone = (refl, refl); both_ways = (refl, refl); three_in_parallel = (refl, refl) }
