use Rattle.gl_lift.proofs.Counted.{counted_limit_is}
use Rattle.gl_lift.proofs.laws.counted_limits_are_limits.Goals as goal

pub returns : goal.returns
returns c = record { limit = counted_limit_is c.histories_are_lawful.ensures.lawful c.limits_are_counted.ensures.limit }
