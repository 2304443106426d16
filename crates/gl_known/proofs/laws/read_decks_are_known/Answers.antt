use Rattle.gl_known.proofs.DecksRead.{deck_read, file_read}
use Rattle.gl_known.proofs.laws.read_decks_are_known.Goals as goal

pub returns : goal.returns
returns c = record { known = deck_read; of_file = file_read }
