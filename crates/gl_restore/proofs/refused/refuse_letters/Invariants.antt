use Rattle.std.proofs.Common.{◌≡◌, ◌+◌, [], take, drop}
use Rattle.gl_lifting.specs.Renaming.{first_line, has_other_letter}
use Rattle.gl_restore.proofs.refused.refuse_letters.Given as goal

abbrev pub invariant-loop-line : goal.invariant-loop-line
invariant-loop-line l = record {
  first : first_line has_other_letter l.number (take l.line-index l.lines) (drop l.line-index l.lines) ≡ first_line has_other_letter 2 [] l.lines;
  count : l.number ≡ 2 + l.line-index;
}
