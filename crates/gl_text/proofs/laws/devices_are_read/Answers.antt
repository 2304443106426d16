use Rattle.gl_text.proofs.CardLaws.{device_again}
use Rattle.gl_text.proofs.laws.devices_are_read.Goals as goal

pub returns : goal.returns
returns c = device_again
