use Rattle.gl_flat.proofs.GivenFlats.{given}
use Rattle.gl_flat.proofs.laws.flat_decks_are_bounded.Goals as goal

pub returns : goal.returns
returns c = record { bounded = λ deck rails top flat h. (given deck rails top flat h).few }
