use Rattle.gl_printed.proofs.SameDecks.{sound_read}
use Rattle.gl_printed.proofs.laws.decks_that_read_back_are_fine.Goals as goal

pub returns : goal.returns
returns c = record { are_fine = sound_read }
