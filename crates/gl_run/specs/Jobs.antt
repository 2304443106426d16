-- The jobs, as data: what each reads, what refuses it, and what it writes.
use Rattle.std.specs.Prelude.{◌≡◌, ℕ, List, [], ◌∷◌, Option, None, Some, true}
use Rattle.gl_text.specs.Decks.{read_deck}
use Rattle.gl_text.specs.Flattening.{flat_of, flat_job}
use Rattle.gl_base.specs.Libraries.{read_library}
use Rattle.gl_lifting.specs.LiftJobs.{Texts}
use Rattle.gl_lifting.specs.OutLimits.{OutLimit}
use Rattle.gl_lifting.specs.MapReading.{read_map}
use Rattle.gl_lifting.specs.Renaming.{restore as restored_flat}
use Rattle.gl_lift.specs.Lifting.{LiftCause, of_flat, of_keep, lifted_flat, AreLiftTexts, IsLiftLimit}
use Rattle.gl_desk.specs.declared.slot.Slot.TheVariants.{Deck, Library, Map, Lifted, NewMap, Report, Out}
use Rattle.gl_job.specs.declared.kind.Kind.{Kind}
use Rattle.gl_job.specs.declared.kind.Kind.TheVariants as kinds
use Rattle.gl_job.specs.Runs.{Opening, opening}
use Rattle.gl_job.specs.Courses.{Course, refuse, may_stop, unless, input, write}
use Rattle.gl_words.specs.Jobs.{Job, lift, flat, restore, Request, FlatRequest, RestoreRequest, job_named}
use Rattle.gl_deck.specs.Texts.{fault_text}
use Rattle.gl_cells.specs.Texts.{cell_text}
use Rattle.gl_lib.specs.Texts.{keep_text}
use Rattle.gl_limit.specs.Texts.{limit_text}
use Rattle.gl_map.specs.Texts as maps
use Rattle.gl_restore.specs.Texts as names
use Rattle.gl_restore.specs.TooLong.{text_within}

-- ---- texts

-- why nothing is written of a deck and a library that were read
abbrev pub lift_text : LiftCause → List ℕ
lift_text (of_flat fault) = fault_text fault
lift_text (of_keep name) = keep_text name

-- one text is written, and nothing is said
abbrev pub IsAlone : (List ℕ → Type 0) → List (List ℕ) → List ℕ → Type 0
IsAlone Is (text ∷ []) [] = Is text
IsAlone Is _ _ = ⊥

-- the texts of a lifted deck, a map of names and a report, in the order in which they are written
abbrev pub texts_in_order : Texts → List (List ℕ)
texts_in_order texts = texts.lifted ∷ texts.map ∷ texts.report ∷ []

-- these three texts are written, and nothing is said
abbrev pub AreThree : (Texts → Type 0) → List (List ℕ) → List ℕ → Type 0
AreThree Are (lifted ∷ map ∷ report ∷ []) [] = Are (record { lifted = lifted; map = map; report = report })
AreThree Are _ _ = ⊥

-- ---- flat

abbrev pub flat_outs : FlatRequest → List Opening
flat_outs r = opening Out r.out ∷ []

-- the deck is read and flattened, and the flat text is written
unfoldable pub flat_course : FlatRequest → Course
flat_course r = input (opening Deck r.deck) kinds.Deck fault_text (flat_job r.top) (λ text. write (flat_outs r) (IsAlone (λ given. given ≡ text)))

-- ---- lift

abbrev pub lift_outs : Request → List Opening
lift_outs r = opening Lifted r.lifted ∷ opening NewMap r.map ∷ opening Report r.report ∷ []

-- a limit is told of which this is so
abbrev pub IsLimitTold : (OutLimit → Type 0) → Kind → List ℕ → Type 0
IsLimitTold IsPassed kind text = (limit : OutLimit) × (kind ≡ kinds.Limit) × (text ≡ limit_text limit) × IsPassed limit

-- the deck is read, and the library; the deck is flattened, and its kept names are looked up; the first limit that the texts pass is told, or
-- the lifted deck, the map of names and the report are written, which pass none
unfoldable pub lift_course : Request → Course
lift_course r =
    input (opening Deck r.deck) kinds.Deck fault_text (read_deck true) (λ deck.
    input (opening Library r.library) kinds.Library cell_text read_library (λ library.
    unless kinds.Deck lift_text (lifted_flat r.top r.keep deck library) (λ flat.
    may_stop (IsLimitTold (IsLiftLimit r.keep library flat)) (
    write (lift_outs r) (AreThree (AreLiftTexts r.keep library flat))))))

-- ---- restore

abbrev pub restore_outs : RestoreRequest → List Opening
restore_outs r = opening Out r.out ∷ []

-- the lifted deck is read and flattened, and its map is read; the flat deck is renamed, and its text is written, unless it is too long
unfoldable pub restore_course : RestoreRequest → Course
restore_course r =
    input (opening Deck r.lifted) kinds.Deck fault_text (flat_of r.top) (λ flat.
    input (opening Map r.map) kinds.Map maps.fault_text read_map (λ map.
    unless kinds.Map names.fault_text (restored_flat flat map) (λ restored.
    unless kinds.Limit names.limit_text (text_within restored) (λ text.
    write (restore_outs r) (IsAlone (λ given. given ≡ text))))))

-- ---- all

-- what a run does; without a job it is refused
abbrev pub course_of : Option Job → Course
course_of None = refuse kinds.Words []
course_of (Some (lift r)) = lift_course r
course_of (Some (flat r)) = flat_course r
course_of (Some (restore r)) = restore_course r

-- what a run of these words does
abbrev pub course_named : List (List ℕ) → Course
course_named words = course_of (job_named words)
