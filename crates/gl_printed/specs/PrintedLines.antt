-- The lines of printed cards.
use Rattle.std.specs.Prelude.{ℕ, ◌+◌, Bool, true, false, List, [], ◌∷◌}
use Rattle.gl_text.specs.LogicalLines.{Line}
use Rattle.gl_text.specs.Cards.{Card, ended, printed}

-- `.end`, behind which nothing is read
abbrev pub is_end : Card → Bool
is_end ended = true
is_end _ = false

-- printed cards as lines, numbered from n
abbrev pub numbered : ℕ → List Card → List Line
numbered n [] = []
numbered n (c ∷ cs) = record { line = n; text = printed c } ∷ numbered (n + 1) cs
