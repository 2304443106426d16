-- What one point of a job answers: a value that was made of an input, or why there is none.
use Rattle.std.specs.Prelude.{◌≡◌, ◌⊎◌, ℕ, List, Option, None, Some, Result, Ok, Err}
use Rattle.gl_job.specs.declared.kind.Kind.{Kind}
use Rattle.gl_job.specs.declared.kind.Kind.TheVariants as kinds
use Rattle.gl_job.specs.declared.stop.Stop.{Stop}
use Rattle.gl_job.specs.Texts.{End, ended, no_memory, end_of_stop}
use Rattle.gl_job.specs.Runs.{Run, Opening, IsWhole, Unread}

-- the end that tells a refusal of a kind; nothing told is want of memory
abbrev pub refusal_end : {E : Type 0} → Kind → (E → List ℕ) → Option E → End
refusal_end kind text None = no_memory
refusal_end kind text (Some fault) = ended kind (text fault)

-- its kind
abbrev pub refusal_kind : {E : Type 0} → Kind → Option E → Kind
refusal_kind kind None = kinds.Memory
refusal_kind kind (Some fault) = kind

-- the end tells the refusal that there is; want of memory may come in place of any answer
abbrev pub Refuses : {V E : Type 0} → Kind → (E → List ℕ) → Result V E → End → Type 0
Refuses kind text (Ok value) end = end ≡ no_memory
Refuses kind text (Err fault) end = (end ≡ no_memory) ⊎ (end ≡ ended kind (text fault))

-- the input was read whole, and this was made of its bytes
pub record IsRead {V E : Type 0} (wanted : List ℕ → Result V E) (o : Opening) (value : V) (r : Run) : Type 0 where
  pub bytes : List ℕ
  pub whole : IsWhole r o bytes
  pub value_is : wanted bytes ≡ Ok value

-- the input was read whole, and its bytes are refused
pub record IsRefused {V E : Type 0} (kind : Kind) (text : E → List ℕ) (wanted : List ℕ → Result V E) (o : Opening) (end : End) (r : Run) : Type 0 where
  pub bytes : List ℕ
  pub whole : IsWhole r o bytes
  pub refuses : Refuses kind text (wanted bytes) end

-- the input could not be read
pub record IsStopped (o : Opening) (end : End) (r : Run) : Type 0 where
  pub stop : Stop
  pub end_is : end ≡ end_of_stop stop
  pub unread : Unread stop r o

-- nothing was made of the input
abbrev pub IsNotRead : {V E : Type 0} → Kind → (E → List ℕ) → (List ℕ → Result V E) → Opening → End → Run → Type 0
IsNotRead kind text wanted o end r = IsStopped o end r ⊎ IsRefused kind text wanted o end r
