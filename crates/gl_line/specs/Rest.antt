-- What is left of the logical lines.
use Rattle.std.specs.Prelude.{ℕ, List, [], ◌∷◌, drop, flat_map}
use Rattle.gl_text.specs.LogicalLines.{Line, grouped, kept_lines}

-- the first group, if there is one
abbrev pub first_of : List (List Line) → List Line
first_of [] = []
first_of (g ∷ gs) = g

-- the groups behind it
abbrev pub others_of : List (List Line) → List (List Line)
others_of [] = []
others_of (g ∷ gs) = gs

-- the `+` lines before the first group, and the groups
abbrev pub pluses : ℕ → List ℕ → List Line
pluses n bytes = first_of (grouped (kept_lines n bytes))

-- the groups of bytes whose first line has this number
abbrev pub groups : ℕ → List ℕ → List (List Line)
groups n bytes = others_of (grouped (kept_lines n bytes))

-- what `+` lines add to a text
abbrev pub added : List Line → List ℕ
added ls = flat_map (λ m. 32 ∷ drop 1 m.text) ls
