use Rattle.gl_printed.proofs.FlatDeckLaws.{flat_text_is}
use Rattle.gl_printed.proofs.laws.flat_texts_are_printed_decks.Goals as goal

pub returns : goal.returns
returns c = record { are_printed = flat_text_is }
