use Rattle.gl_text.proofs.CallCardLaws.{call_again}
use Rattle.gl_text.proofs.laws.calls_are_read.Goals as goal

pub returns : goal.returns
returns c = call_again
