-- What the top call claims.
use Rattle.std.specs.Prelude.{◌≡◌, ◌≢◌, ◌⊎◌, ◌<◌, ◌+◌, ℕ, [], true, false}
use Rattle.gl_desk.specs.declared.slot.Slot.{Slot}
use Rattle.gl_desk.specs.declared.slot.Slot.TheVariants.{Says}
use Rattle.gl_desk.specs.Desk.{LONGEST, IsInput, IsOutput}
use Rattle.gl_job.specs.Texts.{End, status_of, line_of, Speaks}
use Rattle.gl_job.specs.Runs.{Run, IsUntouched}
use Rattle.gl_job.specs.Courses.{Course, Ends}
use Rattle.gl_job.specs.Claims.{IsLeft}

-- the run ended so: the answer is the status, and this was said
pub record IsEnding (status : ℕ) (c : Course) (r : Run) : Type 0 where
  pub end : End
  pub status_is : status ≡ status_of end
  pub ends : Ends [] c end r
  pub speaks : Speaks (line_of end) (r.before Says) (r.after Says)

-- where one byte too many was taken of an input, the file is said to be too long, or there was no memory
abbrev pub IsLongSaid : ℕ → Run → Type 0
IsLongSaid status r = (slot : Slot) → IsInput slot → (r.after slot).used ≡ true → (r.after slot).taken ≡ LONGEST + 1 → (status ≡ 6) ⊎ (status ≡ 9)

-- where a fault of a slot was counted that is not in use, a call is said to have failed
abbrev pub IsFailedSaid : ℕ → Run → Type 0
IsFailedSaid status r = (slot : Slot) → slot ≢ Says → (r.after slot).used ≡ false → (r.before slot).faults < (r.after slot).faults → (status ≡ 7) ⊎ (status ≡ 8)

-- no output is in use but where all is written, or an output could not be written whole
abbrev pub AreClosed : ℕ → Run → Type 0
AreClosed status r = (status ≡ 0) ⊎ (status ≡ 8) ⊎ ((slot : Slot) → IsOutput slot → slot ≢ Says → (r.after slot).used ≡ false)

-- what the job does not open shows what it showed; what is said aside
abbrev pub AreLeft : Course → Run → Type 0
AreLeft c r = (slot : Slot) → IsLeft slot c → slot ≢ Says → IsUntouched r slot
