-- The numbers are printed.
use Rattle.std.proofs.Common.{refl}
use Rattle.std.specs.Fmt.{digits}
use Rattle.gl_rows.proofs.rounds.round_reports_compute.Goals as goal

pub returns : goal.returns
unfolding digits
returns c = record { pass_gate = refl; two_cells = refl; no_cells = refl; at_level = refl }
