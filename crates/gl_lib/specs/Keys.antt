-- How a type is kept as a key. This project's own.
use Rattle.std.specs.Prelude.{ℕ, List, [], Option, None, Some}
use Rattle.gl_card.specs.declared.letter.Letter.{Letter}
use Rattle.gl_card.specs.Letters.{byte_of}
use Rattle.gl_lib.specs.declared.type_name.ModelName.{ModelName}
use Rattle.gl_lib.specs.declared.type_name.ModelName.TheVariants.{Word, Undefined, Absent}
use Rattle.gl_base.specs.TypeNames.{TypeName, of_word, of_model, of_letter, of_cell}

-- the type of a letter and what is known of its model
abbrev pub type_kept : Letter → ModelName → TypeName
type_kept letter (Word word) = of_word (byte_of letter) word
type_kept letter (Undefined model) = of_model (byte_of letter) model
type_kept letter Absent = of_letter (byte_of letter)

-- the name in a type, by which it is hashed
abbrev pub name_in : TypeName → List ℕ
name_in (of_word letter word) = word
name_in (of_model letter model) = model
name_in (of_letter letter) = []
name_in (of_cell name classes) = name

-- the first of two, if there is one, else the second
abbrev pub first_of : Option (List ℕ) → Option (List ℕ) → Option (List ℕ)
first_of None second = second
first_of (Some first) second = Some first
