-- The pieces of a report, as they are printed one after another.
use Rattle.std.specs.Prelude.{ℕ, List, [], ◌∷◌, ◌++◌, codes, map, flat_map}
use Rattle.std.specs.Fmt.{decimal}
use Rattle.std.specs.List.{enumerate_from}
use Rattle.gl_text.specs.Decks.{Sub}
use Rattle.gl_match.specs.declared.role.Pick.{Pick}
use Rattle.gl_match.specs.Listing.{Instance}
use Rattle.gl_base.specs.Reports.{line}
use Rattle.gl_base.specs.RoundReports.{CellPart, part_lines, round_lines, found_words}
use Rattle.gl_base.specs.Libraries.{Library}
use Rattle.gl_history.specs.Plain.{Round}
use Rattle.gl_report.specs.Naming.{RoundNames}
use Rattle.gl_report.specs.Shown.{shown_part}

-- the words, each behind a blank
abbrev pub behind_blanks : List (List ℕ) → List ℕ
behind_blanks words = flat_map (λ word. 32 ∷ word) words

-- the lines of some instances with their numbers
abbrev pub instance_lines : RoundNames → Sub → List (ℕ × (Instance × Pick)) → List ℕ
instance_lines names cell numbered = flat_map (λ n. line (found_words names.run names.devices cell n)) numbered

-- what became of cells, printed
abbrev pub parts_text : RoundNames → List CellPart → List ℕ
parts_text names told = flat_map (part_lines names.run names.devices) told

-- a numbered round, printed
abbrev pub round_text : RoundNames → Library → ℕ × Round → List ℕ
round_text names library r = round_lines names.run (r.0, shown_part names library r)

-- rounds, numbered from a level on, printed
abbrev pub rounds_from : RoundNames → Library → ℕ → List Round → List ℕ
rounds_from names library level rounds = flat_map (round_lines names.run) (enumerate_from level (map (shown_part names library) (enumerate_from level rounds)))

-- rounds, numbered from 0, printed
abbrev pub rounds_text : RoundNames → Library → List Round → List ℕ
rounds_text names library rounds = rounds_from names library 0 rounds

-- how many devices are left, and the last line
abbrev pub left_lines : ℕ → List ℕ
left_lines left = line (codes "left" ∷ decimal left ∷ []) ++ line (codes "end" ∷ [])
