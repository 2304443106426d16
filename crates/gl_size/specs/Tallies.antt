-- What is kept of a subcircuit to count what it expands to.
use Rattle.std.specs.Prelude.{ℕ, ◌+◌, Bool, false, List, map, min, slice_index, slice_index_or, sum_by}
use Rattle.std.specs.List.{list_any}
use Rattle.gl_text.specs.Decks.{Body, Sub}
use Rattle.gl_deck.specs.Places.{calls_of}
use Rattle.gl_size.specs.declared.counted.Counted.{Counted}
use Rattle.gl_size.specs.declared.counted.Counted.TheVariants as counted
use Rattle.gl_size.specs.Counts.{own_of, most_of}

-- its cards and its devices, up to one more than there may be, and the places of the subcircuits that it calls
pub record Tally : Type 0 where
  pub cards : ℕ
  pub devices : ℕ
  pub calls : List ℕ

-- what cards count for themselves, or one more than there may be where that's less
abbrev pub own_count : Counted → List Body → ℕ
own_count kind cards = min (sum_by (own_of kind) cards) (most_of kind)

-- the tally of a subcircuit of these cards
abbrev pub tally_of : List Sub → List Body → Tally
tally_of subs cards = record { cards = own_count counted.Cards cards; devices = own_count counted.Devices cards; calls = calls_of subs cards }

-- those of all subcircuits
abbrev pub tallies_of : List Sub → List Tally
tallies_of subs = map (λ (s : Sub). tally_of subs s.cards) subs

-- what it counts for itself
abbrev pub own_in : Counted → Tally → ℕ
own_in counted.Cards t = t.cards
own_in counted.Devices t = t.devices

-- what the subcircuits at these places count together, by the counts of all
abbrev pub sum_at : List ℕ → List ℕ → ℕ
sum_at counts places = sum_by (slice_index counts) places

-- what a subcircuit counts, by the counts of those that it calls
abbrev pub count_through : Counted → List ℕ → Tally → ℕ
count_through kind counts t = min (own_in kind t + min (sum_at counts t.calls) (most_of kind)) (most_of kind)

-- one of the subcircuits at these places is marked
abbrev pub has_mark : List Bool → List ℕ → Bool
has_mark marks places = list_any (λ place. slice_index_or marks place false) places
