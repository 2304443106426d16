use Rattle.std.proofs.Common.{◌≡◌, ◌<◌, ◌^◌, drop}
use Rattle.gl_flat.specs.Kept.{device_lines}
use Rattle.gl_flat.specs.Lengths.{after}
use Rattle.gl_named.specs.Firsts.{at_number}
use Rattle.gl_named.specs.Named.{devices_from}
use Rattle.gl_named.proofs.length.add_devices.Given as goal

abbrev pub invariant-loop-device : goal.invariant-loop-device
invariant-loop-device l = record {
  so_far : after l.sum (device_lines l.nets (devices_from (at_number l.table) l.number (drop l.device-index l.devices))) ≡ after l.total (device_lines l.nets (devices_from (at_number l.table) 0 l.devices));
  fits : l.sum < 2 ^ 64;
  count : l.number ≡ l.device-index;
}
