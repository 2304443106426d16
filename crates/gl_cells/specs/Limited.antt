-- Cells whose numbers of cards and ports fit the numbers of the code, and the first cell past a limit.
use Rattle.std.specs.Prelude.{ℕ, ◌<◌, ◌^◌, List, length, map, Option}
use Rattle.std.specs.List.{IsAmong}
use Rattle.gl_text.specs.Decks.{Sub}
use Rattle.gl_fault.specs.Refusals.{first_some}
use Rattle.gl_base.specs.Libraries.{Cause, limit_cause, clash_cause}

-- a cell with less than 2^32 cards and ports
pub record IsCountable (s : Sub) : Type 0 where
  pub cards : length s.cards < 2 ^ 32
  pub ports : length s.head.ports < 2 ^ 32

-- each of these cells is so
abbrev pub AreCountable : List Sub → Type 0
AreCountable subs = (s : Sub) → IsAmong subs s → IsCountable s

-- the first limit that the first cell breaks of those that break one
abbrev pub limits_cause : List Sub → List Sub → Option Cause
limits_cause subs cells = first_some (map (limit_cause subs) cells)

-- the clash of the first cell that has one
abbrev pub clashes_cause : List (List ℕ) → List Sub → List Sub → Option Cause
clashes_cause rails subs cells = first_some (map (clash_cause rails subs) cells)
