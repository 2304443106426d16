use Rattle.gl_text.proofs.LevelLaws.{not_reached}
use Rattle.gl_text.proofs.laws.going_down_ends.Goals as goal

pub returns : goal.returns
returns c = not_reached
