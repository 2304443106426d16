-- What one seat of a desk in memory shows (this project's own).
use Rattle.std.specs.Prelude.{◌≡◌, ◌≢◌, ◌⊎◌, ℕ, List, [], drop, Bool, true, Option, Some, None, if◌then◌else◌, IsSomeAnd}
use Rattle.std.specs.Option.{option_map}
use Rattle.gl_desk.specs.declared.seat.Seat.{Seat}
use Rattle.gl_desk.specs.Desk.{View, Fails}

-- an input has what lies behind its mark, an output was given what it holds
abbrev pub seat_view : Bool → Seat → View
seat_view input seat = record {
  left = if input then Some (drop seat.mark seat.bytes.items) else None;
  given = if input then None else Some seat.bytes.items;
  taken = seat.mark;
  used = seat.used;
  faults = seat.faults;
}

-- the name by which it wants to be opened
abbrev pub seat_wants : Seat → Option (List ℕ)
seat_wants seat = option_map (λ name. name.items) seat.wanted

-- it wants another name than this
abbrev pub WantsOther : Option (List ℕ) → List ℕ → Type 0
WantsOther wanted name = IsSomeAnd wanted (λ other. other ≢ name)

-- it holds nothing, wants no name and has not failed
pub record IsNew (seat : Seat) (in_use : Bool) : Type 0 where
  pub used : seat.used ≡ in_use
  pub bytes : seat.bytes.items ≡ []
  pub mark : seat.mark ≡ 0
  pub faults : seat.faults ≡ 0
  pub wanted : seat_wants seat ≡ None

-- it was opened with these bytes
pub record Starts (old new : Seat) (content : List ℕ) : Type 0 where
  pub used : new.used ≡ true
  pub bytes : new.bytes.items ≡ content
  pub mark : new.mark ≡ 0
  pub faults : new.faults ≡ old.faults
  pub wanted : seat_wants new ≡ seat_wants old

-- a call failed, and that was counted; nothing else changed
pub record Faults (old new : Seat) : Type 0 where
  pub shows : (input : Bool) → Fails (seat_view input old) (seat_view input new)
  pub wanted : seat_wants new ≡ seat_wants old

-- it shows and wants what it did
pub record Unchanged (old new : Seat) : Type 0 where
  pub shows : (input : Bool) → seat_view input new ≡ seat_view input old
  pub wanted : seat_wants new ≡ seat_wants old

-- it was not opened: another name is wanted, which is no fault; else a fault was counted
abbrev pub NotStarted : List ℕ → Seat → Seat → Type 0
NotStarted name old new = (WantsOther (seat_wants old) name × Unchanged old new) ⊎ Faults old new
