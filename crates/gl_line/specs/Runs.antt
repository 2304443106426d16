-- The first field of a text, by where it begins and ends.
use Rattle.std.specs.Prelude.{ℕ, ◌-◌, ◌≡◌, ◌<◌, ◌≤◌, List, [], ◌∷◌, take, drop, length, Option, Some, None}
use Rattle.gl_text.specs.LogicalLines.{Piece, fields_of}
use Rattle.gl_line.specs.declared.run.Run.{Run}

-- the field from start up to end, and the text behind it
abbrev pub piece_at : List ℕ → ℕ → ℕ → Piece
piece_at text start end = record { bytes = take (end - start) (drop start text); behind = drop end text }

-- there is no field; or the first is this run, and the others are those of the text behind it
abbrev pub FirstRun : Option Run → List ℕ → Type 0
FirstRun None text = fields_of text ≡ []
FirstRun (Some r) text = (fields_of text ≡ piece_at text r.start r.end ∷ fields_of (drop r.end text)) × (r.start < r.end) × (r.end ≤ length text)
