use Rattle.gl_printed.proofs.DeckTextLaws.{text_is}
use Rattle.gl_printed.proofs.laws.decks_are_printed_cards.Goals as goal

pub returns : goal.returns
returns c = record { are_cards = text_is }
