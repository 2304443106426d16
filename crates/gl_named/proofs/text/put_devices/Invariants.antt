use Rattle.std.proofs.Common.{◌≡◌, ◌++◌, drop, map}
use Rattle.std.specs.Prelude.{codes, flat_map}
use Rattle.gl_flat.specs.Kept.{KeptDevice}
use Rattle.gl_lifting.specs.NameMaps.{map_line}
use Rattle.gl_named.specs.Firsts.{at_number}
use Rattle.gl_named.specs.Walks.{renamed_from}
use Rattle.gl_named.proofs.text.put_devices.Given as goal

abbrev pub invariant-loop-device : goal.invariant-loop-device
invariant-loop-device l = record {
  so_far : l.out.items ++ flat_map (map_line (codes "device")) (renamed_from (at_number l.table) l.number (map (λ (d : KeptDevice). d.name) (drop l.device-index l.devices)))
      ≡ l.fn.out.items ++ flat_map (map_line (codes "device")) (renamed_from (at_number l.table) 0 (map (λ (d : KeptDevice). d.name) l.devices));
  count : l.number ≡ l.device-index;
}
