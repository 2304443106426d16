use Rattle.gl_printed.proofs.ReadBackLaws.{read_back}
use Rattle.gl_printed.proofs.laws.fine_decks_read_back.Goals as goal

pub returns : goal.returns
returns c = record { read_back = read_back }
