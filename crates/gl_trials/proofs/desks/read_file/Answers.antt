use Rattle.gl_desk.specs.declared.slot.Slot.TheVariants.{Deck}
use Rattle.gl_trials.proofs.desks.read_file.Goals as goal

pub open-requires-clause-free : goal.open-requires-clause-free
open-requires-clause-free g c = c.new-desk.ensures.fresh.free Deck (λ e. cc e)
