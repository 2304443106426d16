-- The names of a list with commas between them.
use Rattle.std.specs.Prelude.{◌==◌, ◌++◌, ℕ, List, [], ◌∷◌, map, if◌then◌else◌}
use Rattle.gl_text.specs.LogicalLines.{folded}

-- bytes at the front of the first piece
abbrev pub onto_first : List ℕ → List (List ℕ) → List (List ℕ)
onto_first bytes [] = bytes ∷ []
onto_first bytes (piece ∷ pieces) = (bytes ++ piece) ∷ pieces

-- the pieces between commas, one more than there are commas
abbrev pub pieces : List ℕ → List (List ℕ)
pieces [] = [] ∷ []
pieces (byte ∷ bytes) = if byte == 44 then [] ∷ pieces bytes else onto_first (byte ∷ []) (pieces bytes)

-- the names: a part between two commas may be empty
abbrev pub names_in : List ℕ → List (List ℕ)
names_in text = map folded (pieces text)
