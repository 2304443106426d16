use Rattle.gl_known.proofs.Lines.{together}
use Rattle.gl_known.proofs.laws.lines_are_short.Goals as goal

pub returns : goal.returns
returns c = record { together = together }
