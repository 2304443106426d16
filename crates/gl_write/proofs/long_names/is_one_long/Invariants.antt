use Rattle.std.proofs.Common.{◌≡◌, drop}
use Rattle.gl_text.specs.LogicalLines.{NAME}
use Rattle.gl_lifting.specs.Counting.{has_longer}
use Rattle.gl_write.proofs.long_names.is_one_long.Given as goal

abbrev pub invariant-loop-name : goal.invariant-loop-name
invariant-loop-name l = has_longer NAME (drop l.name-index l.names) ≡ has_longer NAME l.names
