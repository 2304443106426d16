use Rattle.gl_deck.proofs.Whole.{same_deck}
use Rattle.gl_deck.proofs.laws.lines_make_the_deck.Goals as goal

pub returns : goal.returns
returns c = record { same = same_deck }
