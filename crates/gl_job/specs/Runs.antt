-- What a run saw of the slots: what was read of an input, or why nothing; what became of an output.
use Rattle.std.specs.Prelude.{◌≡◌, ◌≢◌, ◌⊎◌, ℕ, ◌+◌, ◌≤◌, List, [], true, Option, length, take, IfSome, IsSomeAnd}
use Rattle.std.specs.List.{AllByRecursion}
use Rattle.gl_desk.specs.declared.slot.Slot.{Slot}
use Rattle.gl_desk.specs.declared.slot.Slot.TheVariants.{Says}
use Rattle.gl_desk.specs.Desk.{LONGEST, View, HasRisen}
use Rattle.gl_job.specs.declared.stop.Stop.{Stop}
use Rattle.gl_job.specs.declared.stop.Stop.TheVariants as stops

-- what each slot showed before and after, what a word would hold, and which name a slot wanted
pub record Run : Type 0 where
  pub before : Slot → View
  pub after : Slot → View
  pub held : Slot → List ℕ → Option (List ℕ)
  pub wanted : Slot → Option (List ℕ)

-- the same of a desk before and after
abbrev pub run_of : {D : Type 0} → (D → Slot → View) → (D → Slot → List ℕ → Option (List ℕ)) → (D → Slot → Option (List ℕ)) → D → D → Run
run_of shows holds wants old new = record { before = shows old; after = shows new; held = holds old; wanted = wants old }

-- a slot and the job's word for it
pub record Opening : Type 0 where
  pub slot : Slot
  pub word : List ℕ

-- the same as one value
abbrev pub opening : Slot → List ℕ → Opening
opening slot word = record { slot = slot; word = word }

-- a fault of the slot was counted, or it wants another name than the job's word
abbrev pub HasCause : Run → Opening → Type 0
HasCause r o = HasRisen (r.before o.slot).faults (r.after o.slot).faults ⊎ IsSomeAnd (r.wanted o.slot) (λ name. name ≢ o.word)

-- the slot is not in use, or not one byte more than a file may have was taken of it
abbrev pub IsNotLong : Run → Slot → Type 0
IsNotLong r slot = (r.after slot).used ≡ true → (r.after slot).taken ≢ LONGEST + 1

-- one byte more than a file may have was taken, and the word holds so many
pub record IsLong (r : Run) (o : Opening) : Type 0 where
  pub used : (r.after o.slot).used ≡ true
  pub counted : (r.after o.slot).taken ≡ LONGEST + 1
  pub many : IfSome (r.held o.slot o.word) (λ bytes. LONGEST + 1 ≤ length bytes)

-- the input was read to its end, and these are the bytes that its word holds
pub record IsWhole (r : Run) (o : Opening) (bytes : List ℕ) : Type 0 where
  pub used : (r.after o.slot).used ≡ true
  pub same_bytes : IfSome (r.held o.slot o.word) (λ held. bytes ≡ held)
  pub end : IfSome (r.after o.slot).left (λ rest. rest ≡ [])
  pub few : length bytes ≤ LONGEST
  pub counted : (r.after o.slot).taken ≡ length bytes

-- why an input could not be read; there is no memory only for bytes of an input that was opened
abbrev pub Unread : Stop → Run → Opening → Type 0
Unread (stops.Read slot) r o = (slot ≡ o.slot) × HasCause r o × IsNotLong r o.slot
Unread (stops.LongFile slot) r o = (slot ≡ o.slot) × IsLong r o
Unread stops.Memory r o = ((r.after o.slot).used ≡ true) × IsNotLong r o.slot
Unread _ r o = ⊥

-- the output was given the text, and nothing else
pub record IsWritten (r : Run) (o : Opening) (text : List ℕ) : Type 0 where
  pub used : (r.after o.slot).used ≡ true
  pub given : IfSome (r.after o.slot).given (λ given. given ≡ text)

-- a call failed before all of the text was given: a front of it was, and nothing else
pub record IsCutShort (r : Run) (o : Opening) (text : List ℕ) : Type 0 where
  pub cause : HasCause r o
  pub front : IfSome (r.after o.slot).given (λ given. (n : ℕ) × (given ≡ take n text))

-- the slot shows what it showed
abbrev pub IsUntouched : Run → Slot → Type 0
IsUntouched r slot = r.after slot ≡ r.before slot

-- the slot is none of these
abbrev pub IsApart : Slot → List Slot → Type 0
IsApart slot slots = AllByRecursion (λ s. slot ≢ s) slots

-- all but these slots show what they showed; what is said aside
abbrev pub AreRest : List Slot → Run → Type 0
AreRest slots r = (slot : Slot) → IsApart slot slots → slot ≢ Says → IsUntouched r slot
