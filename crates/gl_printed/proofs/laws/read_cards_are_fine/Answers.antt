use Rattle.gl_printed.proofs.ReadCardLaws.{fine_again}
use Rattle.gl_printed.proofs.laws.read_cards_are_fine.Goals as goal

pub returns : goal.returns
returns c = record { are_fine = fine_again }
