-- Sets of names. This project's own.
use Rattle.std.specs.Prelude.{◌≡◌, ◌&&◌, not, ℕ, Bool, List}
use Rattle.gl_text.specs.Decks.{is_in}

-- what is among these names is among those
abbrev pub HasNames : List (List ℕ) → List (List ℕ) → Type 0
HasNames keys names = (name : List ℕ) → is_in name keys ≡ is_in name names

-- a net is in neither of two lists
abbrev pub inner_by : List (List ℕ) → List (List ℕ) → List ℕ → Bool
inner_by rails ports net = not (is_in net rails) && not (is_in net ports)
