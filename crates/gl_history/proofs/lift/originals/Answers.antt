use Rattle.std.proofs.Common.{map, ap, ◌∙◌}
use Rattle.gl_history.specs.Plain.{origin_value}
use Rattle.gl_history.proofs.HistoryLaws.{originals_more}
use Rattle.gl_history.proofs.lift.originals.Goals as goal

pub loop-dev-preserved : goal.loop-dev-preserved
loop-dev-preserved c = ap (map origin_value) c.in_ok-push.ensures.items ∙ originals_more c.loop-dev.dev c.loop-dev.origins.items c.loop-dev.invariant
