-- The probe of rounds, by the cells as they are searched. This project's own.
use Rattle.std.specs.Prelude.{ℕ, List, [], flat_map, zip, Option, Some, None, All}
use Rattle.std.specs.List.{enumerate_from}
use Rattle.gl_text.specs.Decks.{Sub}
use Rattle.gl_match.specs.Cells.{Cell}
use Rattle.gl_match.specs.Graph.{Circuit, Pattern}
use Rattle.gl_graph.specs.FitCells.{IsForCircuit}
use Rattle.gl_course.specs.KeyNotes.{IsDeepEnough}
use Rattle.gl_history.specs.Plain.{Round}
use Rattle.gl_history.specs.Searching.{pattern_at}
use Rattle.gl_probe.specs.Keys.{key_in}
use Rattle.gl_probe.specs.Probes.{key_line}

-- the line of a cell, by its pattern, if it is searched
abbrev pub line_by : ℕ → Circuit → Sub → Option Pattern → List ℕ
line_by level c cell None = []
line_by level c cell (Some pattern) = key_line level cell (key_in c pattern)

-- the line of a cell in the round of a level
abbrev pub shown_line : ℕ → Circuit → Sub × Cell → List ℕ
shown_line level c s = line_by level c s.0 (pattern_at level s.1)

-- the lines of a numbered round
abbrev pub shown_round : List Sub → List Cell → ℕ × Round → List ℕ
shown_round subs cells n = flat_map (shown_line n.0 n.1.circuit) (zip subs cells)

-- the lines of rounds, numbered from 0
abbrev pub shown_probe : List Sub → List Cell → List Round → List ℕ
shown_probe subs cells rounds = flat_map (shown_round subs cells) (enumerate_from 0 rounds)

-- each cell can be searched in the circuit of each round
abbrev pub AllFit : List Cell → List Round → Type 0
AllFit cells rounds = All (λ (r : Round). All (IsForCircuit r.circuit) cells) rounds

-- ---- labels

-- behind this depth each vertex that may be the key is spoiled, if there is a pattern
abbrev pub IsDeepFor : ℕ → Option Pattern → Type 0
IsDeepFor depth None = Unit {0}
IsDeepFor depth (Some p) = IsDeepEnough p depth

-- so it is of each cell of a level
abbrev pub IsDeepForAll : ℕ → ℕ → List Cell → Type 0
IsDeepForAll level depth cells = All (λ (cell : Cell). IsDeepFor depth (pattern_at level cell)) cells
