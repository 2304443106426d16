use Rattle.std.proofs.Common.{true}
use Rattle.gl_desk.proofs.seat.Seat.take.Goals as goal

pub returns-then-is_due-clause-failed : goal.returns-then-is_due-clause-failed
returns-then-is_due-clause-failed c = c.fault.ensures.shows true
