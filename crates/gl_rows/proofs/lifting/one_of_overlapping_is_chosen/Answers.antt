-- The numbers are printed.
use Rattle.std.proofs.Common.{refl}
use Rattle.std.specs.Fmt.{digits}
use Rattle.gl_rows.proofs.lifting.one_of_overlapping_is_chosen.Goals as goal

pub returns : goal.returns
unfolding digits
returns c = record { both_ways = refl; three_in_parallel = refl; inverter_first = refl; nand_first = refl }
