use Rattle.gl_lifting.proofs.FourthLinkLaws.{as_many, lifted_is_flat}
use Rattle.gl_lifting.proofs.SideLaws.{all_suit}
use Rattle.gl_lifting.proofs.lifted_laws.lifted_decks_are_flat.Goals as goal

pub returns : goal.returns
returns c = record {
  many = λ deck_bytes library_bytes o flat library h stem is. as_many deck_bytes library_bytes o flat library h stem is (all_suit deck_bytes library_bytes o flat library h stem is);
  flat = λ deck_bytes library_bytes o flat library h stem map report is. lifted_is_flat deck_bytes library_bytes o flat library h stem is (all_suit deck_bytes library_bytes o flat library h stem is) map report;
}
