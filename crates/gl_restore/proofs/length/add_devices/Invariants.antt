use Rattle.std.proofs.Common.{◌≡◌, take, map}
use Rattle.std.specs.Prelude.{flat_map}
use Rattle.gl_flat.specs.Kept.{device_line}
use Rattle.gl_flat.specs.Lengths.{after}
use Rattle.gl_restore.proofs.length.add_devices.Given as goal

abbrev pub invariant-loop-back : goal.invariant-loop-back
invariant-loop-back l = l.sum ≡ after l.total (flat_map (device_line (map (λ n. n.now) l.nets)) (take l.back-index l.backs))
