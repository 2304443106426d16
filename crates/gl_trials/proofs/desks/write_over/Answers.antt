use Rattle.gl_desk.specs.declared.slot.Slot.TheVariants.{Lifted}
use Rattle.gl_trials.proofs.desks.write_over.Goals as goal

pub open-requires : goal.open-requires
open-requires c = record { free = (c.fail.ensures.fresh c.new-desk.ensures.fresh).free Lifted (λ e. cc e) }
