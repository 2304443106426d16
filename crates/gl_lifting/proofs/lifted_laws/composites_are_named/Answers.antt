use Rattle.gl_lifting.proofs.NamedCompositeLaws.{named}
use Rattle.gl_lifting.proofs.SideLaws.{all_suit}
use Rattle.gl_lifting.proofs.lifted_laws.composites_are_named.Goals as goal

pub returns : goal.returns
returns c = record { named = λ deck_bytes library_bytes o flat library h stem map report is. named deck_bytes library_bytes o flat library h stem is (all_suit deck_bytes library_bytes o flat library h stem is) map report }
