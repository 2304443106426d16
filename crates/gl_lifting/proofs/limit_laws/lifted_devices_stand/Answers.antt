use Rattle.gl_lifting.proofs.FifthLinkOfLaws.{names_differ, new_cards_stand}
use Rattle.gl_lifting.proofs.SideLaws.{all_suit}
use Rattle.gl_lifting.proofs.limit_laws.lifted_devices_stand.Goals as goal

pub returns : goal.returns
returns c = record {
  stand = λ deck_bytes library_bytes o flat library h stem is. new_cards_stand deck_bytes library_bytes o flat library h stem is (all_suit deck_bytes library_bytes o flat library h stem is);
  differ = λ deck_bytes library_bytes o flat library h stem is. names_differ deck_bytes library_bytes o flat library h stem is (all_suit deck_bytes library_bytes o flat library h stem is);
}
