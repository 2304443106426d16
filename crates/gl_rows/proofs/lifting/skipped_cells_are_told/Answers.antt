-- The numbers are printed.
use Rattle.std.proofs.Common.{refl}
use Rattle.std.specs.Fmt.{digits}
use Rattle.gl_rows.proofs.lifting.skipped_cells_are_told.Goals as goal

pub returns : goal.returns
unfolding digits
returns c = record { fill = refl }
