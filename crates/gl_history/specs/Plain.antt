-- What the rounds of a run hold, as plain lists and numbers. This project's own.
use Rattle.std.specs.Prelude.{ℕ, List}
use Rattle.gl_match.specs.declared.role.Pick.{Pick}
use Rattle.gl_match.specs.Graph.{Circuit}
use Rattle.gl_match.specs.Listing.{Instance}
use Rattle.gl_lifting.specs.Replacement as replacement
use Rattle.gl_history.specs.declared.origin.Origin as declared
use Rattle.gl_history.specs.declared.origin.Origin.TheVariants.{Base, Made}

-- what was found of a cell in a round: the number of the cell, its list, and a pick for each instance
pub record RoundCell : Type 0 where
  pub cell : ℕ
  pub list : List Instance
  pub picks : List Pick

-- what was found of a cell of a number
abbrev pub round_cell : ℕ → List Instance → List Pick → RoundCell
round_cell cell list picks = record { cell = cell; list = list; picks = picks }

-- a round: its circuit, where each of the circuit's devices comes from, and what was found of each cell that is searched in it
pub record Round : Type 0 where
  pub circuit : Circuit
  pub origins : List replacement.Origin
  pub cells : List RoundCell

-- all rounds, the circuit that they leave with the origins of its devices, and how many instances are chosen in all of them
pub record Lifted : Type 0 where
  pub rounds : List Round
  pub last : Circuit
  pub last_origins : List replacement.Origin
  pub chosen : ℕ

-- where a device comes from, as the definitions of replacement say it
abbrev pub origin_value : declared.Origin → replacement.Origin
origin_value (Base dev) = replacement.base dev
origin_value (Made number) = replacement.made number
