-- Where a run of blanks ends.
use Rattle.std.specs.Prelude.{ℕ, Bool, false, List, [], ◌∷◌}
use Rattle.gl_text.specs.LogicalLines.{is_blank}

-- a text begins with a blank
abbrev pub is_blank_first : List ℕ → Bool
is_blank_first [] = false
is_blank_first (b ∷ bs) = is_blank b
