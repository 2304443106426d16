-- What was made of an input that was read, or why nothing was, from what is made of its bytes.
use Rattle.std.proofs.Common.{◌≡◌, ℕ, List, Option, refl, sym, subst, inl, inr}
use Rattle.std.specs.Prelude.{Result, Ok, Err, IfOk, IfErr}
use Rattle.gl_text.specs.Flattening.{Flat, flat_of}
use Rattle.gl_job.specs.declared.kind.Kind.{Kind}
use Rattle.gl_job.specs.declared.stop.Stop.{Stop}
use Rattle.gl_job.specs.Texts.{end_of_stop}
use Rattle.gl_job.specs.Runs.{Run, Opening, IsWhole, Unread}
use Rattle.gl_job.specs.Points.{Refuses, IsRead, IsNotRead}
use Rattle.gl_run.specs.declared.ending.Ending.{Ending}
use Rattle.gl_run.specs.Endings.{end_of}
use Rattle.gl_run.specs.Restoring.{IsPlainOf, IsFlatRead}

-- what is made of its bytes is made of the input
pub read_of : {A V E : Type 0} (value : A → V) (wanted : List ℕ → Result V E) (o : Opening) (bytes : List ℕ) (r : Run) (result : Result A Ending)
    → IsWhole r o bytes → IfOk result (λ a. wanted bytes ≡ Ok (value a)) → IfOk result (λ a. IsRead wanted o (value a) r)
read_of value wanted o bytes r (Ok a) whole is = record { bytes = bytes; whole = whole; value_is = is }
read_of value wanted o bytes r (Err ending) whole is = tt

-- a refusal of its bytes is one of the input
pub not_read_of : {A V E : Type 0} (kind : Kind) (text : E → List ℕ) (wanted : List ℕ → Result V E) (o : Opening) (bytes : List ℕ) (r : Run) (result : Result A Ending)
    → IsWhole r o bytes → IfErr result (λ ending. Refuses kind text (wanted bytes) (end_of ending)) → IfErr result (λ ending. IsNotRead kind text wanted o (end_of ending) r)
not_read_of kind text wanted o bytes r (Ok a) whole refuses = tt
not_read_of kind text wanted o bytes r (Err ending) whole refuses = inr (record { bytes = bytes; whole = whole; refuses = refuses })

-- of an input that was not read, nothing was made
pub stopped_of : {V E : Type 0} (kind : Kind) (text : E → List ℕ) (wanted : List ℕ → Result V E) (o : Opening) (r : Run) (stop : Stop) → Unread stop r o → IsNotRead kind text wanted o (end_of_stop stop) r
stopped_of kind text wanted o r stop unread = inl (record { stop = stop; end_is = refl; unread = unread })

-- the flat deck of its bytes is that of the input
pub flat_read_of : {A : Type 0} (value : A → Flat) (top : Option (List ℕ)) (o : Opening) (bytes : List ℕ) (r : Run) (result : Result A Ending)
    → IsWhole r o bytes → IfOk result (λ a. IsPlainOf (flat_of top bytes) (value a)) → IfOk result (λ a. IsFlatRead top o (value a) r)
flat_read_of value top o bytes r (Ok a) whole is = record { flat = is.flat; deck_read = record { bytes = bytes; whole = whole; value_is = is.flat_is }; value_is = is.value_is }
flat_read_of value top o bytes r (Err ending) whole is = tt
