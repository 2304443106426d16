use Rattle.std.proofs.Common.{◌≡◌, eqb, length}
use Rattle.gl_text.specs.LogicalLines.{trim_end}
use Rattle.gl_line.proofs.trim.without_returns.Given as goal

abbrev pub invariant-loop-rest : goal.invariant-loop-rest
invariant-loop-rest l = trim_end (λ b. eqb b 13) l.rest ≡ trim_end (λ b. eqb b 13) l.text

abbrev pub decreases-loop-rest : goal.decreases-loop-rest
decreases-loop-rest l = length l.rest
