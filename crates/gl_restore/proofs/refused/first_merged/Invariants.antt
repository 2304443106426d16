use Rattle.std.proofs.Common.{◌≡◌, ◌+◌, [], take, drop}
use Rattle.gl_lifting.specs.Renaming.{first_line, is_merged, old_names}
use Rattle.gl_restore.proofs.refused.first_merged.Given as goal

abbrev pub invariant-loop-line : goal.invariant-loop-line
invariant-loop-line l = record {
  first : first_line is_merged l.number (take l.line-index l.lines) (drop l.line-index l.lines) ≡ first_line is_merged l.start [] l.lines;
  count : l.number ≡ l.start + l.line-index;
  olds : l.olds.keys ≡ old_names (take l.line-index l.lines);
}
