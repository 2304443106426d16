use Rattle.gl_printed.proofs.ReadDeckLaws.{read_fine}
use Rattle.gl_printed.proofs.laws.read_decks_are_fine.Goals as goal

pub returns : goal.returns
returns c = record { are_fine = read_fine }
