use Rattle.gl_lift.proofs.ReadFiles.{deck_liftable, library_known}
use Rattle.gl_lift.proofs.laws.read_values_are_lifted.Goals as goal

pub returns : goal.returns
returns c = record { deck = deck_liftable; library = library_known }
