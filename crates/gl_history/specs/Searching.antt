-- The cells that are searched in a round. This project's own.
use Rattle.std.specs.Prelude.{◌==◌, ℕ, suc, List, [], ◌∷◌, map, filter_map, Option, None, option_map, if◌then◌else◌}
use Rattle.std.specs.List.{enumerate_from}
use Rattle.gl_match.specs.Graph.{Pattern}
use Rattle.gl_base.specs.Libraries.{greatest}
use Rattle.gl_match.specs.Cells.{Cell}

-- the pattern of a cell, if it is searched in the round of a level
abbrev pub pattern_at : ℕ → Cell → Option Pattern
pattern_at level cell = if cell.level == level then cell.pattern else None

-- the patterns of the cells that are searched in the round of a level
abbrev pub patterns_at : ℕ → List Cell → List Pattern
patterns_at level cells = filter_map (pattern_at level) cells

-- the number of a cell, if it is searched in the round of a level
abbrev pub number_at : ℕ → ℕ × Cell → Option ℕ
number_at level n = option_map (λ pattern. n.0) (pattern_at level n.1)

-- the numbers of those cells, ascending
abbrev pub numbers_at : ℕ → List Cell → List ℕ
numbers_at level cells = filter_map (number_at level) (enumerate_from 0 cells)

-- how many rounds there are: one for each level from 0 to the greatest, and none without cells
abbrev pub rounds_of : List Cell → ℕ
rounds_of [] = 0
rounds_of (cell ∷ cells) = suc (greatest (map (λ (c : Cell). c.level) (cell ∷ cells)))
