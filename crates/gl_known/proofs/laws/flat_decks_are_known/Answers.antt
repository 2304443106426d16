use Rattle.gl_known.proofs.FlatSizes.{flat_known}
use Rattle.gl_known.proofs.laws.flat_decks_are_known.Goals as goal

pub returns : goal.returns
returns c = record { known = flat_known }
