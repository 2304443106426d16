use Rattle.gl_desk.specs.declared.slot.Slot.TheVariants.{Deck}
use Rattle.gl_trials.proofs.desks.read_over.Goals as goal

pub open-requires : goal.open-requires
open-requires c = record { free = (c.fail-failing.ensures.fresh (c.want-wanted.ensures.fresh (c.put-put_again.ensures.fresh (c.put-put.ensures.fresh c.new-desk.ensures.fresh)))).free Deck (λ e. cc e) }
