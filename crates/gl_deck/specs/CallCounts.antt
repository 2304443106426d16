-- How often the subcircuits of a table are called, by their places.
use Rattle.std.specs.Prelude.{ℕ, ◌-◌, ◌==◌, Bool, false, List, [], Option, Some, None, count_by, sum_by, slice_index_or}
use Rattle.gl_text.specs.Decks.{Sub, Body}
use Rattle.gl_deck.specs.Places.{place_called}

-- it is this place
abbrev pub is_place : ℕ → Option ℕ → Bool
is_place place None = false
is_place place (Some other) = place == other

-- how many of these cards call the subcircuit at a place
abbrev pub calls_on : List Sub → List Body → ℕ → ℕ
calls_on subs cards place = count_by (λ card. is_place place (place_called subs card)) cards

-- how many cards of these subcircuits do
abbrev pub calls_from : List Sub → List Sub → ℕ → ℕ
calls_from subs callers place = sum_by (λ (s : Sub). calls_on subs s.cards place) callers

-- the cards of a subcircuit, if it is there
abbrev pub cards_at : Option Sub → List Body
cards_at None = []
cards_at (Some s) = s.cards

-- how often a place is among these
abbrev pub times : ℕ → List ℕ → ℕ
times place places = count_by (λ other. place == other) places

-- one where the number of calls at a place is 0, else 0
abbrev pub uncalled_at : List ℕ → ℕ → ℕ
uncalled_at calls place = 1 - slice_index_or calls place 1
