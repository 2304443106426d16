-- The numbers are printed.
use Rattle.std.proofs.Common.{refl}
use Rattle.std.specs.Fmt.{digits}
use Rattle.gl_rows.proofs.linked.variants_are_shared.Goals as goal

pub returns : goal.returns
unfolding digits
returns c = record { first_size_again = refl; top_named_as_a_variant = refl; restored = refl; turn_of_three_places = refl }
