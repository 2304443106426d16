use Rattle.gl_cover.proofs.OneChoice.{one_choice, picks_are_choice}
use Rattle.gl_cover.proofs.laws.picks_are_the_choice.Goals as goal

pub returns : goal.returns
returns c = record { choice = picks_are_choice; once = one_choice }
