-- The types of devices: what has to agree where a device of a cell goes to one of the circuit. This project's own.
use Rattle.std.specs.Prelude.{ℕ, ◌==◌, ◌&&◌, not, Bool, false, List, [], ◌∷◌, ◌++◌, filter, find, Option, Some, None, option_map, if◌then◌else◌}
use Rattle.std.specs.List.{range_with_len}
use Rattle.gl_text.specs.LogicalLines.{same_text}
use Rattle.gl_text.specs.Cards.{Device as Card, Model, first_byte}

-- A type: a letter with the type word of its model; a letter with the name of a model that nothing defines; a letter that takes no model;
-- a cell with the classes of its ports. So a cell named `r` is no resistor, and a model that nothing defines is no type word.
pub data TypeName : Type 0 where
  of_word : ℕ → List ℕ → TypeName
  of_model : ℕ → List ℕ → TypeName
  of_letter : ℕ → TypeName
  of_cell : List ℕ → List ℕ → TypeName

-- two types are the same
abbrev pub same_type : TypeName → TypeName → Bool
same_type (of_word a v) (of_word b w) = (a == b) && same_text v w
same_type (of_model a m) (of_model b n) = (a == b) && same_text m n
same_type (of_letter a) (of_letter b) = a == b
same_type (of_cell c m) (of_cell d n) = same_text m n && same_text c d
same_type _ _ = false

-- the type word of the first model of a name
abbrev pub word_of : List Model → List ℕ → Option (List ℕ)
word_of models name = option_map (λ (m : Model). m.word) (find (λ (m : Model). same_text m.name name) models)

-- the type of a letter with a model, by the model's type word
abbrev pub type_by_word : ℕ → List ℕ → Option (List ℕ) → TypeName
type_by_word letter model None = of_model letter model
type_by_word letter model (Some word) = of_word letter word

-- the type of a letter by its model, where models have these type words
abbrev pub type_by_model : (List ℕ → Option (List ℕ)) → ℕ → Option (List ℕ) → TypeName
type_by_model words letter None = of_letter letter
type_by_model words letter (Some model) = type_by_word letter model (words model)

-- the type of a device, where models have these type words
abbrev pub type_by : (List ℕ → Option (List ℕ)) → Card → TypeName
type_by words d = type_by_model words (first_byte d.name) d.model

-- the type of a device: the deck's models come first, then the library's
abbrev pub type_of : List Model → List Model → Card → TypeName
type_of deck library = type_by (word_of (deck ++ library))

-- the classes of the places: drain and source of m are one, gate and bulk one each; the ends of r and c are one; those of d, l, v and i one each
abbrev pub letter_classes : List (ℕ × List ℕ)
letter_classes = (109, 0 ∷ 1 ∷ 0 ∷ 2 ∷ []) ∷ (114, 0 ∷ 0 ∷ []) ∷ (99, 0 ∷ 0 ∷ []) ∷ (100, 0 ∷ 1 ∷ []) ∷ (108, 0 ∷ 1 ∷ []) ∷ (118, 0 ∷ 1 ∷ []) ∷ (105, 0 ∷ 1 ∷ []) ∷ []

-- the classes of the places of a letter, by a table of letters
abbrev pub classes_by : List (ℕ × List ℕ) → ℕ → List ℕ
classes_by [] letter = []
classes_by (row ∷ rows) letter = if row.0 == letter then row.1 else classes_by rows letter

-- the classes of the ports of a cell that has so many: each port is one
abbrev pub port_classes : ℕ → List ℕ
port_classes ports = range_with_len 0 ports

-- the class of each place of a type
abbrev pub classes_of : TypeName → List ℕ
classes_of (of_word letter word) = classes_by letter_classes letter
classes_of (of_model letter model) = classes_by letter_classes letter
classes_of (of_letter letter) = classes_by letter_classes letter
classes_of (of_cell name classes) = classes

-- each once, in order of first appearance
abbrev pub each_once : List TypeName → List TypeName
each_once [] = []
each_once (t ∷ ts) = t ∷ filter (λ u. not (same_type t u)) (each_once ts)
