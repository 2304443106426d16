-- The numbers are printed.
use Rattle.std.proofs.Common.{refl}
use Rattle.std.specs.Fmt.{digits}
use Rattle.gl_rows.proofs.reports.circuit_and_pattern_values.Goals as goal

pub returns : goal.returns
unfolding digits
returns c = record { circuit_and_pattern_of_an_inverter = (refl, refl); top_ports_are_pinned = (refl, refl); a_pinned_net_is_no_inner_net = (refl, refl); cells_above = (refl, refl, refl); first_loose_port = refl; first_skipped_callee = refl; reason_of_a_caller = refl }
