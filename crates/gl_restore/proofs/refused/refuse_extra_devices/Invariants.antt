use Rattle.std.proofs.Common.{◌≡◌, ◌+◌, [], map, take, drop}
use Rattle.gl_lifting.specs.Renaming.{first_line, is_for_none}
use Rattle.gl_restore.specs.Backs.{kept_name}
use Rattle.gl_restore.proofs.refused.refuse_extra_devices.Given as goal

abbrev pub invariant-loop-line : goal.invariant-loop-line
invariant-loop-line l = record {
  first : first_line (is_for_none (map kept_name l.devices)) l.number (take l.line-index l.lines) (drop l.line-index l.lines) ≡ first_line (is_for_none (map kept_name l.devices)) 2 [] l.lines;
  count : l.number ≡ 2 + l.line-index;
}
