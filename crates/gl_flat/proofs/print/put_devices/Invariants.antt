use Rattle.std.proofs.Common.{◌≡◌, ◌++◌, take}
use Rattle.std.specs.Prelude.{flat_map}
use Rattle.gl_flat.specs.Kept.{device_line}
use Rattle.gl_flat.proofs.print.put_devices.Given as goal

abbrev pub invariant-loop-device : goal.invariant-loop-device
invariant-loop-device l = l.out.items ≡ l.fn.out.items ++ flat_map (device_line l.nets) (take l.device-index l.devices)
