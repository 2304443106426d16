-- What a desk's calls do to the slots of a run (this project's own): each slot shows a view, and each call is a
-- relation between the view before and the view after.
use Rattle.std.specs.Prelude.{◌≡◌, ◌≢◌, ◌⊎◌, ℕ, ◌+◌, ◌<◌, ◌≤◌, ◌++◌, List, [], Bool, true, false, Option, Some, length, take, is_some, IfSome, IsSomeAnd}
use Rattle.std.specs.Option.{option_map}
use Rattle.gl_desk.specs.declared.fault.ReadFault.{ReadFault}
use Rattle.gl_desk.specs.declared.fault.ReadFault.TheVariants as faults
use Rattle.gl_desk.specs.declared.slot.Slot.{Slot}
use Rattle.gl_desk.specs.declared.slot.Slot.TheVariants.{Deck, Library, Map, Lifted, NewMap, Report, Out, Says}

-- how many bytes a file may have
abbrev pub LONGEST : ℕ
LONGEST = 67108864

-- what a slot shows: the bytes that an input has still to give and the bytes that an output was given, each `None`
-- where the desk does not tell them; how many bytes were taken, whether it is in use, and how often it has failed
pub record View : Type 0 where
  pub left : Option (List ℕ)
  pub given : Option (List ℕ)
  pub taken : ℕ
  pub used : Bool
  pub faults : ℕ

-- whether a slot is read; the others are written
abbrev pub is_input : Slot → Bool
is_input Deck = true
is_input Library = true
is_input Map = true
is_input Lifted = false
is_input NewMap = false
is_input Report = false
is_input Out = false
is_input Says = false

-- the slot is read
abbrev pub IsInput : Slot → Type 0
IsInput slot = is_input slot ≡ true

-- the slot is written
abbrev pub IsOutput : Slot → Type 0
IsOutput slot = is_input slot ≡ false

-- a count of faults has risen, or stands at the end of its type
abbrev pub HasRisen : ℕ → ℕ → Type 0
HasRisen old new = (old < new) ⊎ (new ≡ 18446744073709551615)

-- the desk still tells of a slot what it told, and nothing else
pub record TellsSame (old new : View) : Type 0 where
  pub left : is_some new.left ≡ is_some old.left
  pub given : is_some new.given ≡ is_some old.given

-- all other slots show what they showed
abbrev pub OthersSame : {D : Type 0} → (D → Slot → View) → D → D → Slot → Type 0
OthersSame {D} shows old new slot = (other : Slot) → other ≢ slot → shows new other ≡ shows old other

-- what the names hold, and what the slots want, stays
pub record NamesSame {D : Type 0}
    (held : D → Slot → List ℕ → Option (List ℕ)) (wants : D → Slot → Option (List ℕ)) (old new : D) : Type 0 where
  pub same_held : (slot : Slot) (name : List ℕ) → held new slot name ≡ held old slot name
  pub same_wants : (slot : Slot) → wants new slot ≡ wants old slot

-- only what the program says is in use
pub record IsFresh {D : Type 0} (shows : D → Slot → View) (desk : D) : Type 0 where
  pub free : (slot : Slot) → slot ≢ Says → (shows desk slot).used ≡ false
  pub says : (shows desk Says).used ≡ true

-- the slot was opened: an input has what its name holds, an output was given nothing
pub record Opens (slot : Slot) (holds : Option (List ℕ)) (old new : View) : Type 0 where
  pub used : new.used ≡ true
  pub taken : new.taken ≡ 0
  pub left : IsInput slot → IfSome holds (λ bytes. new.left ≡ Some bytes)
  pub given : IsOutput slot → IfSome new.given (λ bytes. bytes ≡ [])
  pub told : TellsSame old new
  pub faults : old.faults ≤ new.faults

-- the slot was not opened: a counted fault, or another name than it wants
pub record NotOpened (slot : Slot) (name : List ℕ) (wanted : Option (List ℕ)) (old new : View) : Type 0 where
  pub used : new.used ≡ false
  pub given : IsOutput slot → IfSome new.given (λ bytes. bytes ≡ [])
  pub told : TellsSame old new
  pub never_falls : old.faults ≤ new.faults
  pub cause : HasRisen old.faults new.faults ⊎ IsSomeAnd wanted (λ other. other ≢ name)

-- the next bytes were taken
pub record Takes (old new : View) (piece : List ℕ) : Type 0 where
  pub left : old.left ≡ option_map (λ rest. piece ++ rest) new.left
  pub given : new.given ≡ old.given
  pub taken : new.taken ≡ old.taken + length piece
  pub used : new.used ≡ old.used
  pub faults : old.faults ≤ new.faults

-- these bytes were given behind those before
pub record Gives (old new : View) (bytes : List ℕ) : Type 0 where
  pub left : new.left ≡ old.left
  pub given : new.given ≡ option_map (λ before. before ++ bytes) old.given
  pub taken : new.taken ≡ old.taken
  pub used : new.used ≡ old.used
  pub faults : old.faults ≤ new.faults

-- a call failed, and that was counted; else the slot shows what it showed
pub record Fails (old new : View) : Type 0 where
  pub left : new.left ≡ old.left
  pub given : new.given ≡ old.given
  pub taken : new.taken ≡ old.taken
  pub used : new.used ≡ old.used
  pub never_falls : old.faults ≤ new.faults
  pub faults : HasRisen old.faults new.faults

-- some of the next bytes were taken, one more than a file may have at most
pub record TakesSome (old new : View) : Type 0 where
  pub piece : List ℕ
  pub takes : Takes old new piece
  pub few : length piece ≤ LONGEST + 1

-- why a whole read gave no bytes: a counted fault; one byte more than a file may have was taken; want of memory
abbrev pub Caused : ReadFault → View → View → Type 0
Caused faults.Failed old new = HasRisen old.faults new.faults
Caused (faults.Long number) old new =
    (number ≡ LONGEST + 1) × (new.taken ≡ old.taken + number) × IfSome old.left (λ left. number ≤ length left)
Caused faults.Memory old new = Unit {0}

-- a front of the bytes was given, not all of them, and then a call failed, which was counted
pub record GivesFront (old new : View) (bytes : List ℕ) : Type 0 where
  pub front : (n : ℕ) × (new.given ≡ option_map (λ before. before ++ take n bytes) old.given) × (n < length bytes)
  pub left : new.left ≡ old.left
  pub taken : new.taken ≡ old.taken
  pub used : new.used ≡ old.used
  pub never_falls : old.faults ≤ new.faults
  pub faults : HasRisen old.faults new.faults
