use Rattle.gl_base.specs.TypeNames.{same_type}
use Rattle.gl_lists.proofs.EachOnce.{same_if}
use Rattle.gl_base.proofs.TypeLaws.{exact, itself, same_type_equiv}
use Rattle.gl_base.proofs.laws.same_types_are_equal.Goals as goal

pub returns : goal.returns
returns c = record { equivalence = same_type_equiv; equal = λ first second. (exact first second, same_if same_type exact itself first second) }
