use Rattle.std.proofs.Common.{sym, ◌∙◌}
use Rattle.gl_desk.specs.declared.slot.Slot.TheVariants.{Says}
use Rattle.gl_run.proofs.Answering.{open_speaks}
use Rattle.gl_run.proofs.ending.say_ending.Goals as goal

pub returns-clause-line : goal.returns-clause-line
returns-clause-line g c =
    open_speaks c.args.ending.now c.kind.result _ (g.D.Desk.shows c.args.desk.now Says) (g.D.Desk.shows c.say.new.desk Says)
    (sym c.is_success.ensures.done ∙ c.if-is_success.false) c.kind.ensures.kind c.parts.ensures.text c.say.ensures.line
