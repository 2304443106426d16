-- A job as data: the inputs in order, what refuses the job once each was read, and the texts of its outputs in order; and what
-- each end of a job means.
use Rattle.std.specs.Prelude.{◌≡◌, ◌⊎◌, ℕ, List, [], ◌∷◌, ◌++◌, map, Result, Ok, Err}
use Rattle.std.specs.List.{AllByRecursion}
use Rattle.gl_desk.specs.declared.slot.Slot.{Slot}
use Rattle.gl_job.specs.declared.kind.Kind.{Kind}
use Rattle.gl_job.specs.declared.stop.Stop.{Stop}
use Rattle.gl_job.specs.declared.stop.Stop.TheVariants as stops
use Rattle.gl_job.specs.Texts.{End, done, ended, no_memory, end_of_stop}
use Rattle.gl_job.specs.Runs.{Run, Opening, Unread, IsWhole, IsWritten, IsCutShort, IsUntouched, AreRest}

-- what a job does from some point on
pub data Course : Type 1 where
  -- it is refused
  refuse : Kind → List ℕ → Course
  -- it reads an input, and what comes then is said of the bytes
  read : Opening → (List ℕ → Course) → Course
  -- one of these refusals may stop it; else it goes on
  may_stop : (Kind → List ℕ → Type 0) → Course → Course
  -- it writes its outputs in order; such texts and such a line are right
  write : List Opening → (List (List ℕ) → List ℕ → Type 0) → Course

-- what follows of a value, or a refusal of a kind, with its text, in its place
abbrev pub unless : {V E : Type 0} → Kind → (E → List ℕ) → Result V E → (V → Course) → Course
unless kind text (Ok value) next = next value
unless kind text (Err fault) next = refuse kind (text fault)

-- an input is read; a refusal of its bytes is told, else what follows of the value comes
abbrev pub input : {V E : Type 0} → Opening → Kind → (E → List ℕ) → (List ℕ → Result V E) → (V → Course) → Course
input o kind text wanted next = read o (λ bytes. unless kind text (wanted bytes) next)

-- the outputs are written one after another: where one cannot be written whole, those before it are whole, and those behind
-- it were not opened
abbrev pub Writes : List Opening → List (List ℕ) → List ℕ → End → Run → Type 0
Writes [] [] line end r = end ≡ done line
Writes (o ∷ os) (text ∷ texts) line end r =
    ((end ≡ end_of_stop (stops.Write o.slot)) × IsCutShort r o text × AllByRecursion (λ later. IsUntouched r later.slot) os)
    ⊎ (IsWritten r o text × Writes os texts line end r)
Writes _ _ line end r = ⊥

-- there was no memory, and no more was opened than these slots
abbrev pub FindsNoMemory : List Slot → End → Run → Type 0
FindsNoMemory opened end r = (end ≡ no_memory) × AreRest opened r

-- what an end means, where these slots were opened before
abbrev pub Ends : List Slot → Course → End → Run → Type 0
Ends opened (refuse kind text) end r =
    FindsNoMemory opened end r ⊎ ((end ≡ ended kind text) × AreRest opened r)
Ends opened (read o next) end r =
    FindsNoMemory opened end r
    ⊎ (((stop : Stop) × (end ≡ end_of_stop stop) × Unread stop r o × AreRest (o.slot ∷ opened) r)
    ⊎ ((bytes : List ℕ) × IsWhole r o bytes × Ends (o.slot ∷ opened) (next bytes) end r))
Ends opened (may_stop Stops next) end r =
    ((kind : Kind) × (text : List ℕ) × Stops kind text × (end ≡ ended kind text) × AreRest opened r)
    ⊎ Ends opened next end r
Ends opened (write outs Are) end r =
    FindsNoMemory opened end r
    ⊎ ((texts : List (List ℕ)) × (line : List ℕ) × Are texts line × Writes outs texts line end r
    × AreRest (map (λ o. o.slot) outs ++ opened) r)

-- all inputs were read, nothing refuses the job, and these are the texts of these outputs, of which none is opened
abbrev pub Makes : List Slot → Course → List Opening → List (List ℕ) → Run → Type 0
Makes opened (refuse kind text) outs texts r = ⊥
Makes opened (read o next) outs texts r = (bytes : List ℕ) × IsWhole r o bytes × Makes (o.slot ∷ opened) (next bytes) outs texts r
Makes opened (may_stop Stops next) outs texts r = Makes opened next outs texts r
Makes opened (write openings Are) outs texts r = (openings ≡ outs) × Are texts [] × AreRest opened r
