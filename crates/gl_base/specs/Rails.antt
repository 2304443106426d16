-- The rails of a run. This project's own.
use Rattle.std.specs.Prelude.{◌≡◌, ℕ, ◌++◌, not, false, List, ◌∷◌, filter, codes}
use Rattle.gl_text.specs.LogicalLines.{same_text}
use Rattle.gl_text.specs.Decks.{is_in, has_twice, once}

-- rail 0
abbrev pub zero_rail : List ℕ
zero_rail = codes "0"

-- the deck's globals and then those of the library that are not there yet, without `0`, which stands before them
abbrev pub run_rails : List (List ℕ) → List (List ℕ) → List (List ℕ)
run_rails deck library = filter (λ name. not (same_text name zero_rail)) (once (deck ++ library))

-- the rails of a circuit, by their numbers
abbrev pub all_rails : List (List ℕ) → List (List ℕ)
all_rails rails = zero_rail ∷ rails

-- no two names are the same, and none is `0`
pub record AreRails (rails : List (List ℕ)) : Type 0 where
  pub differ : has_twice rails ≡ false
  pub no_zero : is_in zero_rail rails ≡ false
