use Rattle.std.proofs.Common.{◌≡◌, ◌≤◌, length}
use Rattle.gl_text.specs.LogicalLines as line
use Rattle.gl_line.proofs.trim.trim_end.Given as goal

abbrev pub invariant-loop-rest : goal.invariant-loop-rest
invariant-loop-rest l = (line.trim_end line.is_blank l.rest ≡ line.trim_end line.is_blank l.text) × (length l.rest ≤ length l.text)

abbrev pub decreases-loop-rest : goal.decreases-loop-rest
decreases-loop-rest l = length l.rest
