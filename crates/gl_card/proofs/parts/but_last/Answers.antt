use Rattle.gl_card.proofs.PartLaws.{but_last_is}
use Rattle.gl_card.proofs.parts.but_last.Goals as goal

pub returns-in-len1-up : goal.returns-in-len1-up
returns-in-len1-up c = record { names = but_last_is c.args.names.now }
