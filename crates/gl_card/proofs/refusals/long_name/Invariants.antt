use Rattle.std.proofs.Common.{◌≡◌, length}
use Rattle.gl_card.specs.Kinds.{shown}
use Rattle.gl_card.specs.Reading.{first_long}
use Rattle.gl_card.proofs.refusals.long_name.Given as goal

abbrev pub invariant-loop-rest : goal.invariant-loop-rest
invariant-loop-rest l = first_long l.line (shown l.rest) ≡ first_long l.line (shown l.names)

abbrev pub decreases-loop-rest : goal.decreases-loop-rest
decreases-loop-rest l = length l.rest
