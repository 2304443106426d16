use Rattle.std.proofs.Common.{◌≡◌, ◌+◌, [], take, drop}
use Rattle.gl_lifting.specs.Renaming.{first_line, is_for_none}
use Rattle.gl_restore.proofs.refused.refuse_extra_nets.Given as goal

abbrev pub invariant-loop-line : goal.invariant-loop-line
invariant-loop-line l = record {
  first : first_line (is_for_none l.nets) l.number (take l.line-index l.lines) (drop l.line-index l.lines) ≡ first_line (is_for_none l.nets) l.start [] l.lines;
  count : l.number ≡ l.start + l.line-index;
}
