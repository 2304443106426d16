use Rattle.gl_lifting.proofs.FifthLinkOfLaws.{paired, renamed}
use Rattle.gl_lifting.proofs.SideLaws.{all_suit}
use Rattle.gl_lifting.proofs.lifted_laws.lifted_decks_are_renamed.Goals as goal

pub returns : goal.returns
returns c = record {
  paired = λ deck_bytes library_bytes o flat library h stem map report is within. paired deck_bytes library_bytes o flat library h stem is (all_suit deck_bytes library_bytes o flat library h stem is);
  renamed = λ deck_bytes library_bytes o flat library h stem map report is within. renamed deck_bytes library_bytes o flat library h stem is (all_suit deck_bytes library_bytes o flat library h stem is);
}
