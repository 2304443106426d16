use Rattle.std.proofs.Common.{◌≡◌, take, map, Ok}
use Rattle.std.specs.Prelude.{flat_map}
use Rattle.gl_text.specs.Flattening.{bearers}
use Rattle.gl_flat.specs.Kept.{kept}
use Rattle.gl_flat.specs.SeenNames.{net_names, seen_all}
use Rattle.gl_flat.proofs.number.number_devices.Given as goal

abbrev pub invariant-loop-device : goal.invariant-loop-device
invariant-loop-device l = record {
  seen : seen_all l.fn.seen (flat_map bearers (take l.device-index l.devices)) ≡ Ok l.seen;
  numbered : l.numbered.items ≡ map (kept (net_names l.seen)) (take l.device-index l.devices);
}
