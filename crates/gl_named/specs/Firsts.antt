-- What stands under numbers, where what is put under a number first stays. This project's own.
use Rattle.std.specs.Prelude.{◌≡◌, ℕ, List, Option, None, slice_index_or}
use Rattle.std.specs.Option.{option_or}
use Rattle.gl_lifting.specs.NameMaps.{under}

-- what stands under a number, if anything does
abbrev pub at_number : {A : Type 0} → List (Option A) → ℕ → Option A
at_number table number = slice_index_or table number None

-- rows were put into a table, one after the other: what stood under a number stays, else the first row of the number stands there
abbrev pub Adds : {A : Type 0} → List (Option A) → List (Option A) → List (ℕ × A) → Type 0
Adds before after rows = (number : ℕ) → at_number after number ≡ option_or (at_number before number) (under rows number)

-- the table has what the rows have, each number's first
abbrev pub Holds : {A : Type 0} → List (Option A) → List (ℕ × A) → Type 0
Holds table rows = (number : ℕ) → at_number table number ≡ under rows number
