use Rattle.gl_card.proofs.PrintLaws.{front_stays}
use Rattle.gl_deck.proofs.print.put_subs.Goals as goal

pub returns-in_err-put_sub-clause-front : goal.returns-in_err-put_sub-clause-front
returns-in_err-put_sub-clause-front c = front_stays c.args.out.now.items c.loop-sub.out.items c.put_sub.new.out.items _ c.loop-sub.invariant c.in_err-put_sub.ensures.front
