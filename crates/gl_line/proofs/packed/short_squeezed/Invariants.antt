use Rattle.std.proofs.Common.{◌≡◌, ◌++◌, ◌+◌, ◌≤◌, take, length}
use Rattle.gl_text.specs.LogicalLines.{squeezed}
use Rattle.gl_line.proofs.packed.short_squeezed.Given as goal

abbrev pub invariant-loop-rest : goal.invariant-loop-rest
invariant-loop-rest l = record {
  front : take l.len l.place ++ squeezed l.rest ≡ squeezed l.text;
  sized : length l.place ≡ 22;
  room : l.len + length l.rest ≤ 22;
}

abbrev pub decreases-loop-rest : goal.decreases-loop-rest
decreases-loop-rest l = length l.rest
