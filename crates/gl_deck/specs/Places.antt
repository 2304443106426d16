-- Where the subcircuits stand in a table that names and cards call.
use Rattle.std.specs.Prelude.{ℕ, List, Option, None, flat_map, option_to_list, position}
use Rattle.gl_text.specs.LogicalLines.{same_text}
use Rattle.gl_text.specs.Decks.{Sub, Body, dev_at, call_at, callees}
use Rattle.gl_deck.specs.Bodies.{names_of}

-- where the subcircuit of a name stands
abbrev pub place_in : List Sub → List ℕ → Option ℕ
place_in subs name = position (same_text name) (names_of subs)

-- where the subcircuit that a card calls stands
abbrev pub place_called : List Sub → Body → Option ℕ
place_called subs (dev_at line d) = None
place_called subs (call_at line c) = place_in subs c.sub

-- where the subcircuits of these names stand, as often as they are named
abbrev pub places_of : List Sub → List (List ℕ) → List ℕ
places_of subs names = flat_map (λ n. option_to_list (place_in subs n)) names

-- where the subcircuits stand that cards call, as often as they are called
abbrev pub calls_of : List Sub → List Body → List ℕ
calls_of subs cards = places_of subs (callees cards)
