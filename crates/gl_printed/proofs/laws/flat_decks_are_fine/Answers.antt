use Rattle.gl_printed.proofs.FlatDeckLaws.{flat_fine_deck}
use Rattle.gl_printed.proofs.laws.flat_decks_are_fine.Goals as goal

pub returns : goal.returns
returns c = record { are_fine = flat_fine_deck }
