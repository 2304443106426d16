-- What rounds make of a circuit, one after another, told by numbers of cells. This project's own.
use Rattle.std.specs.Prelude.{◌≡◌, ℕ, zero, suc, ◌+◌, ◌++◌, List, [], ◌∷◌, length, map}
use Rattle.std.specs.List.{enumerate_from}
use Rattle.gl_match.specs.Graph.{Device, Circuit}
use Rattle.gl_base.specs.Rounds.{IsRound}
use Rattle.gl_lifting.specs.Replacement.{base, Slot}
use Rattle.gl_match.specs.Cells.{Cell}
use Rattle.gl_history.specs.Plain.{RoundCell, Lifted}
use Rattle.gl_history.specs.Searching.{patterns_at, numbers_at}
use Rattle.gl_history.specs.Replacing.{chosen_of, slots_of, slots_after}

-- before the first round each device is an original one
abbrev pub start_of : Circuit → Lifted
start_of c = record {
  rounds = [];
  last = c;
  last_origins = map (λ (n : ℕ × Device). base n.0) (enumerate_from 0 c.devices);
  chosen = 0;
}

-- the cells of a level were searched in a circuit: each list is complete, and the picks are the choice, whose numbers begin with the first
pub record AreFound (c : Circuit) (first : ℕ) (cells : List Cell) (level : ℕ) (found : List RoundCell) : Type 0 where
  pub numbers : map (λ (f : RoundCell). f.cell) found ≡ numbers_at level cells
  pub round : IsRound c first (patterns_at level cells) (map (λ (f : RoundCell). f.list) found) (map (λ (f : RoundCell). f.picks) found)

-- the devices of the last circuit with their origins, once a round has replaced what it chose
abbrev pub slots_behind : List Cell → Lifted → List RoundCell → List Slot
slots_behind cells before found = slots_after (chosen_of cells found) (slots_of before.last.devices before.last_origins)

-- what stands behind a round: it is one round more, the circuit has other devices and else all that it had, and as many more instances are chosen as in the round
abbrev pub behind : List Cell → Lifted → List RoundCell → Lifted
behind cells before found = let slots = slots_behind cells before found in record {
  rounds = before.rounds ++ record { circuit = before.last; origins = before.last_origins; cells = found } ∷ [];
  last = record (before.last) { devices = map (λ (s : Slot). s.device) slots };
  last_origins = map (λ (s : Slot). s.origin) slots;
  chosen = before.chosen + length (chosen_of cells found);
}

-- the round of a level leads from what stood before it to what stands behind it
pub record IsStep (cells : List Cell) (level : ℕ) (before after : Lifted) : Type 0 where
  pub found : List RoundCell
  pub searched : AreFound before.last (suc before.chosen) cells level found
  pub after_is : after ≡ behind cells before found

-- this is reached by so many rounds, from level 0 on
abbrev pub Reached : Circuit → List Cell → ℕ → Lifted → Type 0
Reached c cells zero lifted = lifted ≡ start_of c
Reached c cells (suc level) lifted = (before : Lifted) × Reached c cells level before × IsStep cells level before lifted
