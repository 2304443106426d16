-- The text of a message of which the parts are known.
use Rattle.std.specs.Prelude.{ℕ, List, [], ◌++◌, decimal, flat_map, Option, Some, None}
use Rattle.gl_said.specs.declared.part.Part.{Part}
use Rattle.gl_said.specs.declared.part.Part.TheVariants as parts

-- the text of a part
abbrev pub part_text : Part → List ℕ
part_text (parts.Text text) = text.now
part_text (parts.Name name) = name.now
part_text (parts.Number number) = decimal number

-- the text of parts
abbrev pub parts_text : List Part → List ℕ
parts_text parts = flat_map part_text parts

-- a text, a number, and what follows
abbrev pub numbered : List ℕ → ℕ → List ℕ → List ℕ
numbered text number rest = text ++ (decimal number ++ rest)

-- a text, a name, and what follows
abbrev pub named : List ℕ → List ℕ → List ℕ → List ℕ
named text name rest = text ++ (name ++ rest)

-- the text of a refusal, if it tells one; nothing of want of memory
abbrev pub text_if_any : {E : Type 0} → (E → List ℕ) → Option E → List ℕ
text_if_any text None = []
text_if_any text (Some fault) = text fault
