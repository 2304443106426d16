-- What a desk in memory shows, holds and wants (this project's own).
use Rattle.std.specs.Prelude.{◌≡◌, ◌≢◌, ◌⊎◌, min, length, unwrap_or, ℕ, List, [], ◌∷◌, ◌++◌, Bool, false, Option, Some, None, slice_get, if◌then◌else◌}
use Rattle.std.specs.Option.{option_map}
use Rattle.std.specs.BTreeMap.{get_by_text}
use Rattle.gl_desk.specs.declared.memory_desk.MemoryDesk.{MemoryDesk}
use Rattle.gl_desk.specs.declared.seat.Seat.{Seat}
use Rattle.gl_desk.specs.declared.calls.Calls.{Calls}
use Rattle.gl_desk.specs.declared.calls.CallKind.{CallKind}
use Rattle.gl_desk.specs.declared.calls.CallKind.TheVariants.{Open, Take, Give}
use Rattle.gl_desk.specs.declared.slot.Slot.{Slot}
use Rattle.gl_desk.specs.Desk.{View, is_input}
use Rattle.gl_desk.specs.Calls.{next_number, IsDue}
use Rattle.gl_desk.specs.Places.{place_of, is_says, begins_with}
use Rattle.gl_desk.specs.Seats.{seat_view, seat_wants, WantsOther}

-- what a seat shows, where there is one
abbrev pub view_or_none : Bool → Option Seat → View
view_or_none input None = record { left = None; given = None; taken = 0; used = false; faults = 0 }
view_or_none input (Some seat) = seat_view input seat

-- the name that a seat wants, where there is one
abbrev pub wants_or_none : Option Seat → Option (List ℕ)
wants_or_none None = None
wants_or_none (Some seat) = seat_wants seat

-- what a slot shows, of the seats in the order of the places
abbrev pub view_in : List Seat → Slot → View
view_in seats slot = view_or_none (is_input slot) (slice_get seats (place_of slot))

-- the name by which a slot wants to be opened, of the seats in the order of the places
abbrev pub wanted_in : List Seat → Slot → Option (List ℕ)
wanted_in seats slot = wants_or_none (slice_get seats (place_of slot))

-- what a slot shows
abbrev pub view_of : MemoryDesk → Slot → View
view_of desk slot = view_in desk.seats slot

-- the name by which a slot wants to be opened
abbrev pub wanted_of : MemoryDesk → Slot → Option (List ℕ)
wanted_of desk slot = wanted_in desk.seats slot

-- what the desk's files hold by a name
abbrev pub held_by : MemoryDesk → Slot → List ℕ → Option (List ℕ)
held_by desk slot name = option_map (λ bytes. bytes.items) (get_by_text desk.files name)

-- the bytes that an output in use was given; an input was given none
abbrev pub text_of : View → Option (List ℕ)
text_of view = if view.used then view.given else None

-- what a slot of a new desk shows: only what the program says is in use, and no byte was given or taken
abbrev pub new_view : Slot → View
new_view slot = record {
  left = if is_input slot then Some [] else None;
  given = if is_input slot then None else Some [];
  taken = 0;
  used = is_says slot;
  faults = 0;
}

-- the calls of a kind
abbrev pub calls_of : MemoryDesk → CallKind → Calls
calls_of desk Open = desk.opens
calls_of desk Take = desk.takes
calls_of desk Give = desk.gives

-- how many calls of a kind were made
abbrev pub made_of : MemoryDesk → CallKind → ℕ
made_of desk kind = (calls_of desk kind).made

-- the numbers of the calls of a kind that are to fail
abbrev pub listed_of : MemoryDesk → CallKind → List ℕ
listed_of desk kind = (calls_of desk kind).listed.items

-- the greatest number of bytes of a call
abbrev pub piece_of : MemoryDesk → ℕ
piece_of desk = desk.piece

-- all slots show what they showed
abbrev pub ViewsSame : MemoryDesk → MemoryDesk → Type 0
ViewsSame old new = (slot : Slot) → view_of new slot ≡ view_of old slot

-- all names hold what they held
abbrev pub HeldSame : MemoryDesk → MemoryDesk → Type 0
HeldSame old new = (slot : Slot) (name : List ℕ) → held_by new slot name ≡ held_by old slot name

-- all slots want what they wanted
abbrev pub WantsSame : MemoryDesk → MemoryDesk → Type 0
WantsSame old new = (slot : Slot) → wanted_of new slot ≡ wanted_of old slot

-- the calls that are to fail stay, and so do the counts of calls and the size of a piece
pub record CallsSame (old new : MemoryDesk) : Type 0 where
  pub listed : (kind : CallKind) → listed_of new kind ≡ listed_of old kind
  pub made : (kind : CallKind) → made_of new kind ≡ made_of old kind
  pub piece : piece_of new ≡ piece_of old

-- a name holds these bytes, and the others hold what they held
pub record Puts (old new : MemoryDesk) (name bytes : List ℕ) : Type 0 where
  pub here : (slot : Slot) → held_by new slot name ≡ Some bytes
  pub others : (slot : Slot) (other : List ℕ) → other ≢ name → held_by new slot other ≡ held_by old slot other

-- a slot wants this name, and the others want what they wanted
pub record Wants (old new : MemoryDesk) (slot : Slot) (name : List ℕ) : Type 0 where
  pub here : wanted_of new slot ≡ Some name
  pub others : (other : Slot) → other ≢ slot → wanted_of new other ≡ wanted_of old other

-- one more call of a kind is to fail
pub record Lists (old new : MemoryDesk) (kind : CallKind) (number : ℕ) : Type 0 where
  pub here : listed_of new kind ≡ listed_of old kind ++ number ∷ []
  pub others : (other : CallKind) → other ≢ kind → listed_of new other ≡ listed_of old other
  pub made : (any : CallKind) → made_of new any ≡ made_of old any
  pub piece : piece_of new ≡ piece_of old

-- a call of a kind was counted
pub record Counts (old new : MemoryDesk) (kind : CallKind) : Type 0 where
  pub here : made_of new kind ≡ next_number (calls_of old kind)
  pub others : (other : CallKind) → other ≢ kind → made_of new other ≡ made_of old other
  pub listed : (any : CallKind) → listed_of new any ≡ listed_of old any
  pub piece : piece_of new ≡ piece_of old

-- an open fails: another name is wanted, or the call is to fail, or an input has no such name
abbrev pub MustFail : MemoryDesk → Slot → List ℕ → Type 0
MustFail desk slot name =
    (WantsOther (wanted_of desk slot) name ⊎ IsDue (calls_of desk Open))
    ⊎ (begins_with slot (held_by desk slot name) ≡ None)

-- how many bytes a call takes: what is left, what there is room for, and at most a piece
abbrev pub taken_size : MemoryDesk → Slot → ℕ → ℕ
taken_size desk slot room = min (min (length (unwrap_or (view_of desk slot).left [])) room) (piece_of desk)
