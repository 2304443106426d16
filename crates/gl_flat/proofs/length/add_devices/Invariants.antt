use Rattle.std.proofs.Common.{◌≡◌, take}
use Rattle.std.specs.Prelude.{flat_map}
use Rattle.gl_text.specs.Flattening.{flat_line}
use Rattle.gl_flat.specs.Lengths.{after}
use Rattle.gl_flat.proofs.length.add_devices.Given as goal

abbrev pub invariant-loop-device : goal.invariant-loop-device
invariant-loop-device l = l.sum ≡ after l.total (flat_map flat_line (take l.device-index l.devices))
