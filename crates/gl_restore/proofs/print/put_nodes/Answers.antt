use Rattle.gl_card.proofs.PrintLaws.{front_stays}
use Rattle.gl_restore.proofs.print.put_nodes.Goals as goal

pub returns-in_err-put_word-clause-front : goal.returns-in_err-put_word-clause-front
returns-in_err-put_word-clause-front c = front_stays c.args.out.now.items c.loop-node.out.items c.put_word.new.out.items _ c.loop-node.invariant c.in_err-put_word.ensures.front
