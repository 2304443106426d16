use Rattle.std.proofs.Common.{◌≡◌, take}
use Rattle.gl_restore.specs.Backs.{backs_of}
use Rattle.gl_restore.proofs.back.collect_backs.Given as goal

abbrev pub invariant-loop-line : goal.invariant-loop-line
invariant-loop-line l = l.backs.items ≡ backs_of l.devices (take l.line-index l.lines)
