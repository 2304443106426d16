-- What rounds show of the history of a run. This project's own.
use Rattle.std.specs.Prelude.{◌≡◌, List, length, map}
use Rattle.std.specs.List.{AllZip, range_with_len}
use Rattle.gl_lifting.specs.Runs.{Run}
use Rattle.gl_lifting.specs.Replacement.{Slot}
use Rattle.gl_lifting.specs.Histories as histories
use Rattle.gl_match.specs.Cells.{Cell}
use Rattle.gl_history.specs.Plain.{RoundCell, Round, Lifted}
use Rattle.gl_history.specs.Searching.{numbers_at, rounds_of}

-- a round shows that of a history: its circuit, where its devices come from, its lists and its picks
pub record Shows (run : Run) (told : histories.Round) (shown : Round) : Type 0 where
  pub circuit : shown.circuit ≡ histories.circuit_at run told.before
  pub origins : shown.origins ≡ map (λ (s : Slot). s.origin) told.before.slots
  pub lists : map (λ (f : RoundCell). f.list) shown.cells ≡ told.lists
  pub picks : map (λ (f : RoundCell). f.picks) shown.cells ≡ told.picks

-- there is a history of the run, the rounds and the last circuit with its origins are those of the history, and as many instances are chosen as it has composites
pub record IsLifted (run : Run) (cells : List Cell) (lifted : Lifted) : Type 0 where
  pub history : histories.History
  pub is_history : histories.IsHistory run history
  pub rounds : AllZip (Shows run) history.rounds lifted.rounds
  pub last : lifted.last ≡ histories.circuit_at run history.last
  pub last_origins : lifted.last_origins ≡ map (λ (s : Slot). s.origin) history.last.slots
  pub chosen : lifted.chosen ≡ length history.last.composites
  pub numbers : map (λ (r : Round). map (λ (f : RoundCell). f.cell) r.cells) lifted.rounds ≡ map (λ level. numbers_at level cells) (range_with_len 0 (rounds_of cells))
