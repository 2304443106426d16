use Rattle.std.proofs.Common.{◌≡◌, length}
use Rattle.std.specs.Prelude.{All}
use Rattle.gl_graph.specs.FitCells.{IsForCircuit}
use Rattle.gl_history.specs.Reached.{Reached}
use Rattle.gl_history.proofs.lift.Lift.run.Given as goal

abbrev pub invariant-loop-level : goal.invariant-loop-level
invariant-loop-level l = record {
  reached : Reached l.fn.base l.cells l.level l.lifted;
  pinned : l.lifted.last.pinned ≡ l.pinned;
  cells : All (IsForCircuit l.lifted.last) l.cells;
  origins : length l.lifted.last_origins ≡ length l.lifted.last.devices;
}
