use Rattle.std.proofs.Common.{◌≡◌, take, map}
use Rattle.indexmap.specs.IndexMap.{get}
use Rattle.gl_text.specs.LogicalLines.{same_text}
use Rattle.gl_base.specs.TypeNames.{type_by}
use Rattle.gl_lib.specs.Sources.{device_of_flat}
use Rattle.gl_lib.proofs.devices.flat_devices.Given as goal

abbrev pub invariant-loop-device : goal.invariant-loop-device
invariant-loop-device l = l.devices.items ≡ map (device_of_flat (type_by (get same_text l.words)) l.kinds) (take l.device-index l.flat)
