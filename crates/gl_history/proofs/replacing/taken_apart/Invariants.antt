use Rattle.std.proofs.Common.{◌≡◌, map}
use Rattle.gl_lifting.specs.Replacement.{Slot}
use Rattle.gl_history.specs.Plain.{origin_value}
use Rattle.gl_history.proofs.replacing.taken_apart.Given as goal

abbrev pub invariant-loop-slot : goal.invariant-loop-slot
invariant-loop-slot l = record {
  devices : l.devices.items ≡ map (λ (s : Slot). s.device) l.yielded;
  origins : map origin_value l.origins.items ≡ map (λ (s : Slot). s.origin) l.yielded;
}
