use Rattle.gl_text.proofs.TailLaws.{tail_again}
use Rattle.gl_text.proofs.laws.tails_are_normal.Goals as goal

pub returns : goal.returns
returns c = tail_again
