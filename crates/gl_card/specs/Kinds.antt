-- Kinds of cards and fields of a text, as the code has them.
use Rattle.std.specs.Prelude.{◌≡◌, ℕ, List, [], ◌∷◌, map}
use Rattle.gl_text.specs.LogicalLines.{fields_of, folded, fold_byte}
use Rattle.gl_text.specs.Cards as cards
use Rattle.gl_line.specs.declared.field.Field.{Field}
use Rattle.gl_line.specs.Fields.{piece_of}
use Rattle.gl_card.specs.Letters.{byte_of}
use Rattle.gl_card.specs.declared.letter.Letter.{Letter}
use Rattle.gl_card.specs.declared.letter.Letter.TheVariants.{M, D}
use Rattle.gl_card.specs.declared.kind.Kind.{Kind}
use Rattle.gl_card.specs.declared.kind.Kind.TheVariants as kinds

-- four nodes for M, two for each other letter
abbrev pub nodes_of : Letter → ℕ
nodes_of M = 4
nodes_of _ = 2

-- the fields before the tail
abbrev pub count_of : Letter → ℕ
count_of M = 6
count_of D = 4
count_of _ = 3

-- the kind as the definition of cards names it
abbrev pub kind_value : Kind → cards.Kind
kind_value (kinds.Device l) = cards.device (nodes_of l) (count_of l)
kind_value kinds.Call = cards.caller
kind_value kinds.Model = cards.modelling
kind_value kinds.Subckt = cards.opening
kind_value kinds.Ends = cards.closing
kind_value kinds.Global = cards.globals
kind_value kinds.End = cards.ending
kind_value kinds.Control = cards.control
kind_value kinds.Other = cards.other
kind_value kinds.Unknown = cards.unknown

-- these are all fields of a text
abbrev pub AreFields : List ℕ → List Field → Type 0
AreFields text fields = map (piece_of text) fields ≡ fields_of text

-- the names that fields give
abbrev pub shown : List Field → List (List ℕ)
shown fields = map (λ (f : Field). folded f.bytes.now) fields

-- the bytes of the first field, or nothing
abbrev pub first_bytes : List Field → List ℕ
first_bytes [] = []
first_bytes (f ∷ fs) = f.bytes.now

-- the card of a kind with these fields
abbrev pub card_from : cards.Kind → List Field → List ℕ → cards.Card
card_from kind fields text = cards.card_by kind (cards.names_of kind (shown fields)) (cards.tail_at kind (map (piece_of text) fields)) text

-- a device's letter is the first byte of its text
abbrev pub IsLettered : Kind → List ℕ → Type 0
IsLettered (kinds.Device l) text = fold_byte (cards.first_byte text) ≡ byte_of l
IsLettered _ text = Unit {0}

-- a device's name begins with its letter
abbrev pub IsLetteredField : Kind → List Field → Type 0
IsLetteredField (kinds.Device l) fields = cards.first_byte (cards.first_or [] (shown fields)) ≡ byte_of l
IsLetteredField _ fields = Unit {0}
