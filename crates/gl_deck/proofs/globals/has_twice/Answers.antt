use Rattle.gl_deck.proofs.TwiceLaws.{twice_is}
use Rattle.gl_deck.proofs.globals.has_twice.Goals as goal

pub loop-left-init : goal.loop-left-init
loop-left-init c = twice_is c.new-known.result.keys c.args.names.now c.new-known.ensures.empty
