-- Items that are looked up by their names: the first of a name counts.
use Rattle.std.specs.Prelude.{◌≡◌, ℕ, List, find, Option, Some, None, slice_get, if◌then◌else◌}
use Rattle.gl_text.specs.LogicalLines.{same_text}

-- the item at a place, if there is a place
abbrev pub item_at : {A : Type 0} → List A → Option ℕ → Option A
item_at items None = None
item_at items (Some place) = slice_get items place

-- the first item of a name
abbrev pub first_named : {A : Type 0} → (A → List ℕ) → List ℕ → List A → Option A
first_named name_of name items = find (λ x. same_text (name_of x) name) items

-- each name has the place of the first item of this name, and a name of no item has none
abbrev pub ArePlaces : {A : Type 0} → (A → List ℕ) → List A → (List ℕ → Option ℕ) → Type 0
ArePlaces name_of items place_of = (name : List ℕ) → item_at items (place_of name) ≡ first_named name_of name items

-- the place, where the other name is the same
abbrev pub place_if : List ℕ → ℕ → List ℕ → Option ℕ
place_if name place other = if same_text name other then Some place else None

-- the new name of a line
abbrev pub new_name : List ℕ × List ℕ → List ℕ
new_name line = line.0
