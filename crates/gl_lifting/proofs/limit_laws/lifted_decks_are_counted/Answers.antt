use Rattle.gl_lifting.proofs.CardCountLaws.{cards_counted}
use Rattle.gl_lifting.proofs.SideLaws.{all_suit}
use Rattle.gl_lifting.proofs.limit_laws.lifted_decks_are_counted.Goals as goal

pub returns : goal.returns
returns c = record { cards = λ deck_bytes library_bytes o flat library h stem is. cards_counted deck_bytes library_bytes o flat library h stem is (all_suit deck_bytes library_bytes o flat library h stem is) }
