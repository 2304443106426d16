use Rattle.std.proofs.Common.{◌+◌, ap}
use Rattle.gl_restore.specs.Backs.{kept_name}
use Rattle.gl_restore.proofs.PlaceLaws.{settled_more}
use Rattle.gl_restore.proofs.devices.places_of.Goals as goal

pub loop-device-preserved : goal.loop-device-preserved
loop-device-preserved c = record {
  found = λ name. settled_more kept_name c.args.devices.now c.loop-device.device-index c.device-item.result name _ c.loop-device.place _ _ _ c.loop-device-test.true c.device-item.is c.name.ensures.name c.loop-device.invariant.count
      (c.in_ok-note.ensures.noted name) (c.loop-device.invariant.found name);
  count = ap (λ n. n + 1) c.loop-device.invariant.count;
}
