use Rattle.std.proofs.Common.{◌≡◌, ◌++◌, take}
use Rattle.std.specs.Prelude.{flat_map}
use Rattle.gl_text.specs.Flattening.{flat_line}
use Rattle.gl_flat.proofs.text.put_devices.Given as goal

abbrev pub invariant-loop-device : goal.invariant-loop-device
invariant-loop-device l = l.out.items ≡ l.fn.out.items ++ flat_map flat_line (take l.device-index l.devices)
