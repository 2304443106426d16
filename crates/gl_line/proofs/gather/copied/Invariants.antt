use Rattle.std.proofs.Common.{◌≡◌, ◌≤◌, ◌+◌, ◌++◌, length}
use Rattle.gl_line.specs.Rest.{pluses, groups, added}
use Rattle.gl_line.proofs.gather.copied.Given as goal

abbrev pub invariant-loop-kept : goal.invariant-loop-kept
invariant-loop-kept l = record {
  text : l.text.items ++ added (pluses l.line l.rest) ≡ l.front ++ added (pluses l.first l.bytes);
  groups : groups l.line l.rest ≡ groups l.first l.bytes;
  len : length l.text.items + length l.rest ≤ length l.front + length l.bytes;
  few : l.line + length l.rest ≤ l.first + length l.bytes;
}

abbrev pub decreases-loop-kept : goal.decreases-loop-kept
decreases-loop-kept l = length l.rest
