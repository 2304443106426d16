use Rattle.std.proofs.Common.{◌≡◌, ℕ, ◌<◌, length, drop, get_or, false}
use Rattle.std.specs.Prelude.{◌||◌}
use Rattle.gl_graph.specs.Faults.{is_placed}
use Rattle.gl_graph.proofs.marks.nets_on_devices.Given as goal

abbrev pub invariant-loop-device : goal.invariant-loop-device
invariant-loop-device l = record {
  count : length l.table.items ≡ l.nets;
  marked : (k : ℕ) → k < l.nets → (get_or l.table.items k false || is_placed (drop l.device-index l.devices) k) ≡ is_placed l.devices k;
}
