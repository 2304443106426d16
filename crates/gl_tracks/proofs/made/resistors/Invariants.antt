use Rattle.std.proofs.Common.{◌≤◌, ◌*◌, length}
use Rattle.gl_graph.specs.Built.{count_places}
use Rattle.gl_tracks.proofs.made.resistors.Given as goal

abbrev pub invariant-loop-one : goal.invariant-loop-one
invariant-loop-one g l = record {
  count : length l.devices.items ≤ l.one-index;
  places : count_places l.devices.items ≤ 8 * l.one-index;
}
