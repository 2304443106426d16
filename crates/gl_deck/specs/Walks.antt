-- Subcircuits that are marked, and what is marked from them.
use Rattle.std.specs.Prelude.{ℕ, Bool, true, false, List, [], ◌∷◌, ◌++◌, Option, Some, None, slice_index_or, slice_set, if◌then◌else◌}
use Rattle.gl_text.specs.Decks.{Sub, callees}
use Rattle.gl_deck.specs.Places.{place_in}

-- for each subcircuit whether it is marked, and the places of those whose calls are still to be looked at
pub record Walk : Type 0 where
  pub marks : List Bool
  pub pending : List ℕ

-- one more is marked
abbrev pub marked : ℕ → Walk → Walk
marked place w = if slice_index_or w.marks place false then w else record { marks = slice_set w.marks place true; pending = w.pending ++ place ∷ [] }

-- the one at a place is marked, if there is one
abbrev pub marked_at : Option ℕ → Walk → Walk
marked_at None w = w
marked_at (Some place) w = marked place w

-- the subcircuits of these names are marked
abbrev pub marked_all : List Sub → List (List ℕ) → Walk → Walk
marked_all subs [] w = w
marked_all subs (n ∷ ns) w = marked_all subs ns (marked_at (place_in subs n) w)

-- what the subcircuit at a place calls
abbrev pub called_names : Option Sub → List (List ℕ)
called_names None = []
called_names (Some s) = callees s.cards

-- whether the subcircuit of a name is marked
abbrev pub is_marked_at : Walk → Option ℕ → Bool
is_marked_at w None = false
is_marked_at w (Some place) = slice_index_or w.marks place false

-- whether the subcircuit of a name is marked
abbrev pub is_marked : List Sub → Walk → List ℕ → Bool
is_marked subs w name = is_marked_at w (place_in subs name)
