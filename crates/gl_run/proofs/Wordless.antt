-- A job that is not refused for its words never has their status.
use Rattle.std.proofs.Common.{◌≡◌, ◌≤◌, ℕ, List, [], ◌∷◌, Option, None, Some, true, refl, ap, inl, inr, arith}
use Rattle.std.specs.Prelude.{Result, Ok, Err}
use Rattle.gl_text.specs.Decks.{read_deck}
use Rattle.gl_text.specs.Flattening.{flat_of, flat_job}
use Rattle.gl_lifting.specs.MapReading.{read_map}
use Rattle.gl_lifting.specs.Renaming.{restore as restored_flat}
use Rattle.gl_lift.specs.Lifting.{lifted_flat}
use Rattle.gl_desk.specs.declared.slot.Slot.{Slot}
use Rattle.gl_base.specs.Libraries.{read_library}
use Rattle.gl_job.specs.declared.kind.Kind.{Kind}
use Rattle.gl_job.specs.declared.kind.Kind.TheVariants as kinds
use Rattle.gl_job.specs.declared.stop.Stop.{Stop}
use Rattle.gl_job.specs.declared.stop.Stop.TheVariants as stops
use Rattle.gl_job.specs.Texts.{End, kind_status, status_of, end_of_stop}
use Rattle.gl_job.specs.Runs.{Run, Opening}
use Rattle.gl_job.specs.Courses.{Course, refuse, read, may_stop, write, unless, Writes, Ends}
use Rattle.gl_words.specs.Jobs.{Job, lift, flat, restore, Request, FlatRequest, RestoreRequest}
use Rattle.gl_deck.specs.Texts.{fault_text}
use Rattle.gl_cells.specs.Texts.{cell_text}
use Rattle.gl_map.specs.Texts as maps
use Rattle.gl_restore.specs.Texts as names
use Rattle.gl_restore.specs.TooLong.{text_within}
use Rattle.gl_run.specs.Jobs.{lift_text, flat_course, lift_course, restore_course, course_of}

-- no refusal of the course is one of words
abbrev pub IsWordless : Course → Type 0
IsWordless (refuse kind text) = 2 ≤ kind_status kind
IsWordless (read o next) = (bytes : List ℕ) → IsWordless (next bytes)
IsWordless (may_stop Stops next) = ((kind : Kind) (text : List ℕ) → Stops kind text → 2 ≤ kind_status kind) × IsWordless next
IsWordless (write outs Are) = Unit {0}

stop_status : (stop : Stop) → 2 ≤ status_of (end_of_stop stop)
stop_status (stops.Read slot) = omega arith
stop_status (stops.LongFile slot) = omega arith
stop_status (stops.Write slot) = omega arith
stop_status stops.Memory = omega arith

not_one : (end : End) (n : ℕ) → status_of end ≡ n → 2 ≤ n → status_of end ≡ 1 → ⊥
not_one end n is many one = omega (arith, is, many, one)

written_wordless : (os : List Opening) (texts : List (List ℕ)) (line : List ℕ) (end : End) (r : Run) → Writes os texts line end r → status_of end ≡ 1 → ⊥
written_wordless [] [] line end r h one = let zero : status_of end ≡ 0 = ap status_of h in omega (arith, zero, one)
written_wordless [] (text ∷ texts) line end r h one = absurd h
written_wordless (o ∷ os) [] line end r h one = absurd h
written_wordless (o ∷ os) (text ∷ texts) line end r (inl cut) one = not_one end 8 (ap status_of cut.0) (omega arith) one
written_wordless (o ∷ os) (text ∷ texts) line end r (inr more) one = written_wordless os texts line end r more.1 one

wordless : (opened : List Slot) (c : Course) (end : End) (r : Run) → Ends opened c end r → IsWordless c → status_of end ≡ 1 → ⊥
wordless opened (refuse kind text) end r (inl m) w one = not_one end 9 (ap status_of m.0) (omega arith) one
wordless opened (refuse kind text) end r (inr t) w one = not_one end (kind_status kind) (ap status_of t.0) w one
wordless opened (read o next) end r (inl m) w one = not_one end 9 (ap status_of m.0) (omega arith) one
wordless opened (read o next) end r (inr (inl s)) w one = not_one end (status_of (end_of_stop s.0)) (ap status_of s.1) (stop_status s.0) one
wordless opened (read o next) end r (inr (inr f)) w one = wordless (o.slot ∷ opened) (next f.0) end r f.2 (w f.0) one
wordless opened (may_stop Stops next) end r (inl s) w one = not_one end (kind_status s.0) (ap status_of s.3) (w.0 s.0 s.1 s.2) one
wordless opened (may_stop Stops next) end r (inr h) w one = wordless opened next end r h w.1 one
wordless opened (write outs Are) end r (inl m) w one = not_one end 9 (ap status_of m.0) (omega arith) one
wordless opened (write outs Are) end r (inr f) w one = written_wordless outs f.0 f.1 end r f.3 one

-- ---- the jobs

wordless_unless : {V E : Type 0} (kind : Kind) (text : E → List ℕ) (wanted : Result V E) (next : V → Course) → 2 ≤ kind_status kind → ((value : V) → IsWordless (next value)) → IsWordless (unless kind text wanted next)
wordless_unless kind text (Ok value) next k h = h value
wordless_unless kind text (Err fault) next k h = k

flat_wordless : (r : FlatRequest) → IsWordless (flat_course r)
unfolding flat_course
flat_wordless r = λ bytes. wordless_unless kinds.Deck fault_text (flat_job r.top bytes) _ (omega arith) (λ text. tt)

limit_status : (kind : Kind) → kind ≡ kinds.Limit → 2 ≤ kind_status kind
limit_status kind is = let status = ap kind_status is in omega (arith, status)

lift_wordless : (r : Request) → IsWordless (lift_course r)
unfolding lift_course
lift_wordless r = λ d. wordless_unless kinds.Deck fault_text (read_deck true d) _ (omega arith) (λ deck.
    λ l. wordless_unless kinds.Library cell_text (read_library l) _ (omega arith) (λ library.
    wordless_unless kinds.Deck lift_text (lifted_flat r.top r.keep deck library) _ (omega arith) (λ flat. (λ kind text told. limit_status kind told.1, tt))))

restore_wordless : (r : RestoreRequest) → IsWordless (restore_course r)
unfolding restore_course
restore_wordless r = λ d. wordless_unless kinds.Deck fault_text (flat_of r.top d) _ (omega arith) (λ flat.
    λ m. wordless_unless kinds.Map maps.fault_text (read_map m) _ (omega arith) (λ map.
    wordless_unless kinds.Map names.fault_text (restored_flat flat map) _ (omega arith) (λ restored.
    wordless_unless kinds.Limit names.limit_text (text_within restored) _ (omega arith) (λ text. tt))))

-- the status of words comes only where they name no job
pub one_of_words : (job : Option Job) (end : End) (r : Run) → Ends [] (course_of job) end r → status_of end ≡ 1 → job ≡ None
one_of_words None end r h one = refl
one_of_words (Some (lift q)) end r h one = absurd (wordless [] (lift_course q) end r h (lift_wordless q) one)
one_of_words (Some (flat q)) end r h one = absurd (wordless [] (flat_course q) end r h (flat_wordless q) one)
one_of_words (Some (restore q)) end r h one = absurd (wordless [] (restore_course q) end r h (restore_wordless q) one)
