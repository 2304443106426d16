use Rattle.std.proofs.Common.{◌≡◌, ℕ, List, drop}
use Rattle.indexmap.specs.IndexMap.{get}
use Rattle.gl_text.specs.LogicalLines.{same_text}
use Rattle.gl_restore.specs.Places.{first_named}
use Rattle.gl_restore.specs.Backs.{kept_name}
use Rattle.gl_restore.proofs.PlaceLaws.{settled}
use Rattle.gl_restore.proofs.devices.places_of.Given as goal

abbrev pub invariant-loop-device : goal.invariant-loop-device
invariant-loop-device l = record {
  found : (name : List ℕ) → settled kept_name l.devices name (drop l.device-index l.devices) (get same_text l.places name) ≡ first_named kept_name name l.devices;
  count : l.place ≡ l.device-index;
}
