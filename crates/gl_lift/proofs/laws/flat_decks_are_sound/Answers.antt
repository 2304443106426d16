use Rattle.gl_lift.proofs.Sound.{flat_sound}
use Rattle.gl_lift.proofs.laws.flat_decks_are_sound.Goals as goal

pub returns : goal.returns
returns c = record { sound = flat_sound }
