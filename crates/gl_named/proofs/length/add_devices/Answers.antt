use Rattle.std.proofs.Common.{◌∙◌, List, ap, sym}
use Rattle.std.proofs.lemmas.List.{drop_all}
use Rattle.gl_flat.specs.Kept.{KeptDevice, device_lines}
use Rattle.gl_flat.specs.Lengths.{after}
use Rattle.gl_named.specs.Firsts.{at_number}
use Rattle.gl_named.specs.Named.{devices_from}
use Rattle.gl_named.proofs.CountLaws.{settled}
use Rattle.gl_named.proofs.length.add_devices.Goals as goal

pub returns : goal.returns
returns c =
    let sum = c.loop-device.sum in
    let number = c.loop-device.number in
    record {
      total = settled sum c.loop-device.invariant.fits
          ∙ ap (λ (ds : List KeptDevice). after sum (device_lines c.args.nets.now (devices_from (at_number c.args.table.now) number ds))) (sym (drop_all c.loop-device.device-index c.args.devices.now c.loop-device-test.false))
          ∙ c.loop-device.invariant.so_far;
    }
