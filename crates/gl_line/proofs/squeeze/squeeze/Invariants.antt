use Rattle.std.proofs.Common.{◌≡◌, ◌++◌, length}
use Rattle.gl_text.specs.LogicalLines.{squeezed}
use Rattle.gl_line.proofs.squeeze.squeeze.Given as goal

abbrev pub invariant-loop-rest : goal.invariant-loop-rest
invariant-loop-rest l = l.out.items ++ squeezed l.rest ≡ squeezed l.text

abbrev pub decreases-loop-rest : goal.decreases-loop-rest
decreases-loop-rest l = length l.rest
