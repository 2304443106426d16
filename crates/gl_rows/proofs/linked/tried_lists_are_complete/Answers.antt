-- The numbers are printed.
use Rattle.std.proofs.Common.{refl}
use Rattle.std.specs.Fmt.{digits}
use Rattle.gl_rows.proofs.linked.tried_lists_are_complete.Goals as goal

pub returns : goal.returns
unfolding digits
returns c = record { one_inverter = refl; three_in_parallel = refl; overlap = refl; latch = refl }
