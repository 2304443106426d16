use Rattle.gl_desk.specs.declared.slot.Slot.TheVariants.{Says}
use Rattle.gl_job.proofs.Fronts.{parts_front}
use Rattle.gl_job.proofs.says.+give_parts.Goals as goal

pub returns-in-Ok-clause-err : goal.returns-in-Ok-clause-err
returns-in-Ok-clause-err g t c =
    let shows = g.D.Desk.shows in
    parts_front c.give_parts.result (shows c.args.desk.now Says) (shows c.give_part.new.desk Says) (shows c.give_parts.new.desk Says) c.args.parts.now _ c.in-len1-up.len_at_least
    c.in-Ok.ensures.ok c.give_parts.ensures.err
