use Rattle.gl_printed.proofs.PrintedCardLaws.{card_again}
use Rattle.gl_printed.proofs.laws.fine_cards_are_read.Goals as goal

pub returns : goal.returns
returns c = record { are_read = card_again }
