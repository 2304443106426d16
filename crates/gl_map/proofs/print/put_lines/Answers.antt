use Rattle.gl_map.proofs.PrintLaws.{front_stays}
use Rattle.gl_map.proofs.print.put_lines.Goals as goal

pub returns-in_err-put_map_line-clause-front : goal.returns-in_err-put_map_line-clause-front
returns-in_err-put_map_line-clause-front c = front_stays c.args.out.now.items c.loop-new.out.items c.put_map_line.new.out.items _ c.loop-new.invariant c.in_err-put_map_line.ensures.front
