-- The fields that are left of a text, and what the next of them is.
use Rattle.std.specs.Prelude.{ℕ, ◌+◌, ◌≡◌, List, [], ◌∷◌, take, drop, length, Option, Some, None}
use Rattle.gl_text.specs.LogicalLines.{Piece, fields_of}
use Rattle.gl_line.specs.declared.field.Field.{Field}
use Rattle.gl_line.specs.declared.field.FieldIter.{FieldIter}

-- the text whose fields they are
abbrev pub text_of : FieldIter → List ℕ
text_of s = s.text.now

-- the fields that an iterator has left
abbrev pub fields_left : FieldIter → List Piece
fields_left s = fields_of (drop s.at s.text.now)

-- a field of a text as its bytes and the text behind it
abbrev pub piece_of : List ℕ → Field → Piece
piece_of text f = record { bytes = f.bytes.now; behind = drop (f.start + length f.bytes.now) text }

-- none is left; or this field is the first of those that were left, its bytes are the text's from its start, and the others are left
abbrev pub GivesField : FieldIter → Option Field → FieldIter → Type 0
GivesField s None t = (fields_left s ≡ []) × (fields_left t ≡ []) × (text_of t ≡ text_of s)
GivesField s (Some f) t = (fields_left s ≡ piece_of (text_of s) f ∷ fields_left t) × (take (length f.bytes.now) (drop f.start (text_of s)) ≡ f.bytes.now) × (text_of t ≡ text_of s)
