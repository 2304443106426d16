-- What the rounds of a run are, whatever cells they were made with.
use Rattle.std.specs.Prelude.{List}
use Rattle.gl_match.specs.Cells.{Cell}
use Rattle.gl_lifting.specs.Runs.{Run}
use Rattle.gl_lifting.specs.SearchedCells.{AreCells}
use Rattle.gl_history.specs.Plain.{Lifted}
use Rattle.gl_history.specs.Shown.{IsLifted}

-- with the cells of the run's library, rounds show the history of the run
pub record IsLiftedRun (run : Run) (lifted : Lifted) : Type 0 where
  pub cells : List Cell
  pub cells_are : AreCells run cells
  pub shown : IsLifted run cells lifted
