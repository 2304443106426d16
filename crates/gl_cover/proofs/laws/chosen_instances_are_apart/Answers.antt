use Rattle.gl_cover.proofs.Apart.{apart, numbers_are}
use Rattle.gl_cover.proofs.laws.chosen_instances_are_apart.Goals as goal

pub returns : goal.returns
returns c = record { apart = apart; numbers = numbers_are }
