use Rattle.std.proofs.Common.{◌≡◌, drop, map}
use Rattle.gl_text.specs.LogicalLines.{NAME}
use Rattle.gl_flat.specs.Kept.{KeptDevice}
use Rattle.gl_lifting.specs.Counting.{has_longer}
use Rattle.gl_lifting.specs.Renaming.{new_names}
use Rattle.gl_named.specs.Firsts.{at_number}
use Rattle.gl_named.specs.Walks.{renamed_from}
use Rattle.gl_named.proofs.long.has_long_device.Given as goal

abbrev pub invariant-loop-device : goal.invariant-loop-device
invariant-loop-device l = record {
  so_far : has_longer NAME (new_names (renamed_from (at_number l.table) l.number (map (λ (d : KeptDevice). d.name) (drop l.device-index l.devices)))) ≡ has_longer NAME (new_names (renamed_from (at_number l.table) 0 (map (λ (d : KeptDevice). d.name) l.devices)));
  count : l.number ≡ l.device-index;
}
