use Rattle.gl_printed.proofs.ReadBackLaws.{read_back}
use Rattle.gl_printed.proofs.ReadDeckLaws.{read_fine}
use Rattle.gl_printed.proofs.laws.read_decks_read_back.Goals as goal

pub returns : goal.returns
returns c = record { read_back = λ has_title bytes deck h. read_back deck (read_fine has_title bytes deck h) }
