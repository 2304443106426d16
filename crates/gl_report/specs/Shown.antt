-- The report of rounds that are told by numbers of cells. This project's own.
use Rattle.std.specs.Prelude.{◌==◌, ℕ, Bool, true, false, List, [], ◌∷◌, map, flat_map, find, zip, Option, None, Some, if◌then◌else◌}
use Rattle.std.specs.List.{count_by, enumerate_from}
use Rattle.gl_text.specs.Decks.{Sub}
use Rattle.gl_base.specs.Libraries.{Skip, Cell, Library}
use Rattle.gl_base.specs.RoundReports.{CellPart, found, skipped, RoundPart, report_text}
use Rattle.gl_lifting.specs.Replacement.{Origin, base, made}
use Rattle.gl_history.specs.Plain.{RoundCell, Round}
use Rattle.gl_report.specs.Naming.{RoundNames, names_by}

-- ---- cells

-- what was found of the cell of a number
abbrev pub found_of : ℕ → List RoundCell → Option RoundCell
found_of number cells = find (λ (f : RoundCell). f.cell == number) cells

-- what became of a cell, by what was found of it: it was skipped, or it was searched
abbrev pub told_by : Sub → Option Skip → Option RoundCell → List CellPart
told_by cell (Some skip) f = skipped cell.head.name skip ∷ []
told_by cell None (Some f) = found cell f.list f.picks ∷ []
told_by cell None None = []

-- what became of a numbered cell in the round of a level; nothing is told of a cell of another
abbrev pub told_at : ℕ → List RoundCell → ℕ × (Sub × Cell) → List CellPart
told_at level cells n = if n.1.1.level == level then told_by n.1.0 n.1.1.skip (found_of n.0 cells) else []

-- what became of each cell of a level, in library order
abbrev pub told_of : ℕ → List (Sub × Cell) → List RoundCell → List CellPart
told_of level all cells = flat_map (told_at level cells) (enumerate_from 0 all)

-- ---- rounds

-- what is reported of a round, which has the number of its level
abbrev pub shown_part : RoundNames → Library → ℕ × Round → RoundPart
shown_part names library r = record {
  devices = names_by names r.1.origins;
  cells = told_of r.0 (zip library.deck.subs library.cells) r.1.cells;
}

-- the report of rounds, and of how many devices are left
abbrev pub shown_report : RoundNames → Library → List Round → ℕ → List ℕ
shown_report names library rounds left = report_text names.run (map (shown_part names library) (enumerate_from 0 rounds)) left

-- ---- what is left

-- an original device
abbrev pub is_base : Origin → Bool
is_base (base dev) = true
is_base (made number) = false

-- how many devices of a circuit are original ones
abbrev pub left_of : List Origin → ℕ
left_of origins = count_by is_base origins
