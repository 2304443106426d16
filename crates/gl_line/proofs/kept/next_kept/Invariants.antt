use Rattle.std.proofs.Common.{◌≡◌, ◌≤◌, ◌+◌, length}
use Rattle.gl_text.specs.LogicalLines.{kept_lines}
use Rattle.gl_line.proofs.kept.next_kept.Given as goal

abbrev pub invariant-loop-raw : goal.invariant-loop-raw
invariant-loop-raw l = record {
  same : kept_lines l.line l.rest ≡ kept_lines l.first l.bytes;
  few : l.line + length l.rest ≤ l.first + length l.bytes;
  short : length l.rest ≤ length l.bytes;
}

abbrev pub decreases-loop-raw : goal.decreases-loop-raw
decreases-loop-raw l = length l.rest
