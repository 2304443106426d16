-- The numbers are printed.
use Rattle.std.proofs.Common.{refl}
use Rattle.std.specs.Fmt.{digits}
use Rattle.gl_rows.proofs.lifting.one_cell_is_lifted.Goals as goal

pub returns : goal.returns
unfolding digits
returns c = record { one_inverter = refl; no_bytes = refl; ring = refl; two_sizes = refl }
