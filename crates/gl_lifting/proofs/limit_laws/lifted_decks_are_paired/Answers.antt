use Rattle.gl_lifting.proofs.FifthLinkOfLaws.{paired, renamed, names_told}
use Rattle.gl_lifting.proofs.SideLaws.{all_suit}
use Rattle.gl_lifting.proofs.limit_laws.lifted_decks_are_paired.Goals as goal

pub returns : goal.returns
returns c = record {
  paired = λ deck_bytes library_bytes o flat library h stem is. paired deck_bytes library_bytes o flat library h stem is (all_suit deck_bytes library_bytes o flat library h stem is);
  names = λ deck_bytes library_bytes o flat library h stem is. names_told deck_bytes library_bytes o flat library h stem is (all_suit deck_bytes library_bytes o flat library h stem is);
  renamed = λ deck_bytes library_bytes o flat library h stem is. renamed deck_bytes library_bytes o flat library h stem is (all_suit deck_bytes library_bytes o flat library h stem is);
}
