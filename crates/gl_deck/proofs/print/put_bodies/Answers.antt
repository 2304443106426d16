use Rattle.gl_card.proofs.PrintLaws.{front_stays}
use Rattle.gl_deck.proofs.print.put_bodies.Goals as goal

pub returns-in_err-put_body-clause-front : goal.returns-in_err-put_body-clause-front
returns-in_err-put_body-clause-front c = front_stays c.args.out.now.items c.loop-card.out.items c.put_body.new.out.items _ c.loop-card.invariant c.in_err-put_body.ensures.front
