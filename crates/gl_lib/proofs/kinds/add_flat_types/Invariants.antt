use Rattle.std.proofs.Common.{◌≡◌, drop, map}
use Rattle.indexmap.specs.IndexMap.{get}
use Rattle.indexmap.specs.IndexSet.{insert_all}
use Rattle.gl_text.specs.LogicalLines.{same_text}
use Rattle.gl_base.specs.TypeNames.{same_type, type_by}
use Rattle.gl_lib.specs.Sources.{type_of_flat}
use Rattle.gl_lib.proofs.kinds.add_flat_types.Given as goal

abbrev pub invariant-loop-device : goal.invariant-loop-device
invariant-loop-device l = insert_all same_type l.set.keys (map (type_of_flat (type_by (get same_text l.words))) (drop l.device-index l.devices)) ≡ insert_all same_type l.initial.set.keys (map (type_of_flat (type_by (get same_text l.words))) l.devices)
