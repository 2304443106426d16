-- Where a desk keeps what belongs to a slot, which slot is in use from the start, and what a slot begins with (this
-- project's own).
use Rattle.std.specs.Prelude.{ℕ, List, [], Bool, true, false, Option, Some, if◌then◌else◌}
use Rattle.gl_desk.specs.declared.slot.Slot.{Slot}
use Rattle.gl_desk.specs.declared.slot.Slot.TheVariants.{Deck, Library, Map, Lifted, NewMap, Report, Out, Says}
use Rattle.gl_desk.specs.Desk.{is_input}

-- the place of a slot among the eight, from 0
abbrev pub place_of : Slot → ℕ
place_of Deck = 0
place_of Library = 1
place_of Map = 2
place_of Lifted = 3
place_of NewMap = 4
place_of Report = 5
place_of Out = 6
place_of Says = 7

-- whether a slot is what the program says
abbrev pub is_says : Slot → Bool
is_says Deck = false
is_says Library = false
is_says Map = false
is_says Lifted = false
is_says NewMap = false
is_says Report = false
is_says Out = false
is_says Says = true

-- an input begins with what its name holds, an output with nothing
abbrev pub begins_with : Slot → Option (List ℕ) → Option (List ℕ)
begins_with slot holds = if is_input slot then holds else Some []
