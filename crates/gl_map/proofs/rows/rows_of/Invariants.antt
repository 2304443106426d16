use Rattle.std.proofs.Common.{◌≡◌, ◌+◌, ◌≤◌, [], length}
use Rattle.gl_map.specs.Rows.{rows_in}
use Rattle.gl_map.specs.Checks.{placed}
use Rattle.gl_map.proofs.rows.rows_of.Given as goal

abbrev pub invariant-loop-rest : goal.invariant-loop-rest
invariant-loop-rest l = record {
  same : placed l.line l.rows (rows_in l.rest) ≡ placed 2 [] (rows_in l.bytes);
  count : l.line ≡ length l.rows + 2;
  few : l.line + length l.rest ≤ length l.bytes + 2;
}

abbrev pub decreases-loop-rest : goal.decreases-loop-rest
decreases-loop-rest l = length l.rest
