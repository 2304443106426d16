use Rattle.std.proofs.Common.{◌≡◌, map, drop}
use Rattle.gl_lifting.specs.Renaming.{first_missing}
use Rattle.gl_restore.specs.Backs.{kept_name}
use Rattle.gl_restore.proofs.refused.refuse_missing.Given as goal

abbrev pub invariant-loop-device : goal.invariant-loop-device
invariant-loop-device l = first_missing l.lines (map kept_name (drop l.device-index l.devices)) ≡ first_missing l.lines (map kept_name l.devices)
