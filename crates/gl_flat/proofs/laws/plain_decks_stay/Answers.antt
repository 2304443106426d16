use Rattle.gl_flat.proofs.PlainLaws.{plain_cards, plain_text}
use Rattle.gl_flat.proofs.laws.plain_decks_stay.Goals as goal

pub returns : goal.returns
returns c = record { cards = plain_cards; text = plain_text }
