use Rattle.gl_map.proofs.PrintLaws.{front_stays}
use Rattle.gl_map.proofs.naming.put_way.Goals as goal

pub returns-in_err-put_step-clause-front : goal.returns-in_err-put_step-clause-front
returns-in_err-put_step-clause-front c = front_stays c.args.out.now.items c.loop-name.out.items c.put_step.new.out.items _ c.loop-name.invariant c.in_err-put_step.ensures.front
