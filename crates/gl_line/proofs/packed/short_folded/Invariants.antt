use Rattle.std.proofs.Common.{◌≡◌, take, length}
use Rattle.gl_text.specs.LogicalLines.{folded}
use Rattle.gl_line.proofs.packed.short_folded.Given as goal

abbrev pub invariant-loop-index : goal.invariant-loop-index
invariant-loop-index l = record {
  front : take l.index l.place ≡ folded (take l.index l.text);
  sized : length l.place ≡ 22;
}
