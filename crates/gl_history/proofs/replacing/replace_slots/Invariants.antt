use Rattle.std.proofs.Common.{◌≡◌, ◌++◌, drop, map}
use Rattle.gl_history.specs.Plain.{origin_value}
use Rattle.gl_history.specs.Replacing.{slots_of}
use Rattle.gl_history.specs.Marks.{all_slots_by}
use Rattle.gl_history.proofs.replacing.replace_slots.Given as goal

abbrev pub invariant-loop-i : goal.invariant-loop-i
invariant-loop-i l = let slots = slots_of l.circuit.devices (map origin_value l.origins) in l.slots.items ++ all_slots_by l.made (drop l.i slots) (drop l.i l.fates) ≡ all_slots_by l.made slots l.fates
