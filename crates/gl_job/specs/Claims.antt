-- What follows of a job's end, for any job: when it is done, which status comes where, and which slots are left alone.
use Rattle.std.specs.Prelude.{◌≡◌, ◌≢◌, ◌⊎◌, ℕ, ◌<◌, ◌≤◌, List, [], ◌∷◌, Some, length}
use Rattle.std.specs.List.{AllByRecursion}
use Rattle.gl_desk.specs.declared.slot.Slot.{Slot}
use Rattle.gl_desk.specs.declared.slot.Slot.TheVariants.{Says}
use Rattle.gl_desk.specs.Desk.{LONGEST, IsInput, IsOutput}
use Rattle.gl_job.specs.declared.kind.Kind.{Kind}
use Rattle.gl_job.specs.Texts.{kind_status}
use Rattle.gl_job.specs.Runs.{Run, Opening, HasCause, IsWhole, IsWritten}
use Rattle.gl_job.specs.Courses.{Course, refuse, read, may_stop, write}

-- ---- done

-- each output was given its text
abbrev pub AreWritten : List Opening → List (List ℕ) → Run → Type 0
AreWritten [] [] r = Unit {0}
AreWritten (o ∷ os) (text ∷ texts) r = IsWritten r o text × AreWritten os texts r
AreWritten _ _ r = ⊥

-- each input was read to its end, nothing refuses the job, and each output was given its text
abbrev pub IsDone : Course → Run → Type 0
IsDone (refuse kind text) r = ⊥
IsDone (read o next) r = (bytes : List ℕ) × IsWhole r o bytes × IsDone (next bytes) r
IsDone (may_stop Stops next) r = IsDone next r
IsDone (write outs Are) r = (texts : List (List ℕ)) × (line : List ℕ) × Are texts line × AreWritten outs texts r

-- ---- completeness

-- the input holds these bytes under the job's word, and nothing fails at it
pub record IsSound (r : Run) (o : Opening) (bytes : List ℕ) : Type 0 where
  pub told : r.held o.slot o.word ≡ Some bytes
  pub works : ¬ HasCause r o

-- the status, or want of memory
abbrev pub IsStatus : ℕ → ℕ → Type 0
IsStatus status wanted = (status ≡ wanted) ⊎ (status ≡ 9)

-- each input in turn is too long or read; then the job is refused, or goes on; at the end it is done
abbrev pub IsComplete : Course → ℕ → Run → Type 0
IsComplete (refuse kind text) status r = IsStatus status (kind_status kind)
IsComplete (read o next) status r = (bytes : List ℕ) → IsSound r o bytes
    → (LONGEST < length bytes → IsStatus status 6) × (length bytes ≤ LONGEST → IsComplete (next bytes) status r)
IsComplete (may_stop Stops next) status r =
    ((kind : Kind) × (text : List ℕ) × Stops kind text × (status ≡ kind_status kind)) ⊎ IsComplete next status r
IsComplete (write outs Are) status r = AllByRecursion (λ o. ¬ HasCause r o) outs → IsStatus status 0

-- ---- slots

-- whatever its inputs hold, the job does not open the slot
abbrev pub IsLeft : Slot → Course → Type 0
IsLeft slot (refuse kind text) = Unit {0}
IsLeft slot (read o next) = (slot ≢ o.slot) × ((bytes : List ℕ) → IsLeft slot (next bytes))
IsLeft slot (may_stop Stops next) = IsLeft slot next
IsLeft slot (write outs Are) = AllByRecursion (λ o. slot ≢ o.slot) outs

-- what is read are inputs, and what is written are outputs, what is said aside
abbrev pub IsProper : Course → Type 0
IsProper (refuse kind text) = Unit {0}
IsProper (read o next) = IsInput o.slot × ((bytes : List ℕ) → IsProper (next bytes))
IsProper (may_stop Stops next) = IsProper next
IsProper (write outs Are) = AllByRecursion (λ o. IsOutput o.slot × (o.slot ≢ Says)) outs
