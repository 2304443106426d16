use Rattle.std.proofs.Common.{◌≤◌, ◌*◌, length}
use Rattle.gl_graph.specs.Built.{count_places}
use Rattle.gl_pace.proofs.making.devices_of.Given as goal

abbrev pub invariant-loop-dev : goal.invariant-loop-dev
invariant-loop-dev l = record {
  count : length l.devices.items ≤ l.dev;
  places : count_places l.devices.items ≤ 4 * l.dev;
}
