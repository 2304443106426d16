use Rattle.gl_desk.proofs.Handling.{handles_kept}
use Rattle.gl_desk.proofs.real_desk.RealDeskDesk.give.Goals as goal

pub returns-clause-others : goal.returns-clause-others
returns-clause-others g c = handles_kept c.args.self.now.handles c.args.slot c.place.result _ c.place.ensures.place
