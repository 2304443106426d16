-- The courses of the jobs: what is read and written is proper, and how the points of a job make up the whole.
use Rattle.std.proofs.Common.{inl, inr, ◌≡◌, ◌≢◌, ℕ, List, [], ◌∷◌, Option, None, Some, true, refl, ap, sym, subst}
use Rattle.std.specs.Prelude.{Result, Ok, Err}
use Rattle.std.specs.List.{AllByRecursion}
use Rattle.gl_text.specs.Decks as decks
use Rattle.gl_text.specs.Decks.{read_deck}
use Rattle.gl_text.specs.Flattening.{Flat, flat_of, flat_job}
use Rattle.gl_lifting.specs.NameMaps.{NameMap}
use Rattle.gl_lifting.specs.MapReading.{read_map}
use Rattle.gl_lifting.specs.Renaming.{restore as restored_flat}
use Rattle.gl_base.specs.Libraries as libraries
use Rattle.gl_lift.specs.Lifting.{LiftCause, lifted_flat, AreLiftTexts, IsLiftLimit}
use Rattle.gl_desk.specs.declared.slot.Slot.{Slot}
use Rattle.gl_desk.specs.declared.slot.Slot.TheVariants.{Deck, Library, Map, Out, Says}
use Rattle.gl_desk.specs.Desk.{IsOutput}
use Rattle.gl_base.specs.Libraries.{read_library}
use Rattle.gl_job.specs.declared.kind.Kind.{Kind}
use Rattle.gl_job.specs.declared.kind.Kind.TheVariants as kinds
use Rattle.gl_job.specs.Texts.{End, ended}
use Rattle.gl_job.specs.Runs.{Run, Opening, opening, AreRest}
use Rattle.gl_job.specs.Courses.{Course, unless, write, Ends, Makes}
use Rattle.gl_job.specs.Points.{Refuses, IsRead, IsNotRead}
use Rattle.gl_job.specs.Claims.{IsProper}
use Rattle.gl_job.proofs.Points.{refused_ends, unread_ends, accepted_ends, read_ends, accepted_makes, read_makes}
use Rattle.gl_words.specs.Jobs.{Job, lift, flat, restore, Request, FlatRequest, RestoreRequest}
use Rattle.gl_deck.specs.Texts.{fault_text}
use Rattle.gl_cells.specs.Texts.{cell_text}
use Rattle.gl_lifting.specs.OutLimits.{OutLimit}
use Rattle.gl_limit.specs.Texts.{limit_text}
use Rattle.gl_map.specs.Texts as maps
use Rattle.gl_restore.specs.Texts as names
use Rattle.gl_restore.specs.TooLong.{text_within}
use Rattle.gl_run.specs.Restoring.{IsRestoredText, IsNotRestored}
use Rattle.gl_lifting.specs.LiftJobs.{Texts}
use Rattle.gl_run.specs.Jobs.{lift_text, texts_in_order, flat_outs, flat_course, lift_outs, lift_course, restore_outs, restore_course, course_of}

-- ---- proper

proper_unless : {V E : Type 0} (kind : Kind) (text : E → List ℕ) (wanted : Result V E) (next : V → Course) → ((value : V) → IsProper (next value)) → IsProper (unless kind text wanted next)
proper_unless kind text (Ok value) next h = h value
proper_unless kind text (Err fault) next h = tt

out_proper : (word : List ℕ) → AllByRecursion (λ (o : Opening). IsOutput o.slot × (o.slot ≢ Says)) (opening Out word ∷ [])
out_proper word = ((refl, λ e. absurd cc), tt)

pub lift_outs_proper : (r : Request) → AllByRecursion (λ (o : Opening). IsOutput o.slot × (o.slot ≢ Says)) (lift_outs r)
lift_outs_proper r = ((refl, λ e. absurd cc), ((refl, λ e. absurd cc), ((refl, λ e. absurd cc), tt)))

pub flat_proper : (r : FlatRequest) → IsProper (flat_course r)
unfolding flat_course
flat_proper r = (refl, λ bytes. proper_unless kinds.Deck fault_text (flat_job r.top bytes) _ (λ text. out_proper r.out))

pub lift_proper : (r : Request) → IsProper (lift_course r)
unfolding lift_course
lift_proper r = (
  refl,
  λ d. proper_unless kinds.Deck fault_text (read_deck true d) _ (λ deck. (
    refl,
    λ l. proper_unless kinds.Library cell_text (read_library l) _ (λ library.
        proper_unless kinds.Deck lift_text (lifted_flat r.top r.keep deck library) _ (λ flat. lift_outs_proper r)),
  )),
)

pub restore_proper : (r : RestoreRequest) → IsProper (restore_course r)
unfolding restore_course
restore_proper r = (
  refl,
  λ d. proper_unless kinds.Deck fault_text (flat_of r.top d) _ (λ flat. (
    refl,
    λ m. proper_unless kinds.Map maps.fault_text (read_map m) _ (λ map.
        proper_unless kinds.Map names.fault_text (restored_flat flat map) _ (λ restored.
        proper_unless kinds.Limit names.limit_text (text_within restored) _ (λ text. out_proper r.out))),
  )),
)

pub course_proper : (job : Option Job) → IsProper (course_of job)
course_proper None = tt
course_proper (Some (lift r)) = lift_proper r
course_proper (Some (flat r)) = flat_proper r
course_proper (Some (restore r)) = restore_proper r

-- ---- flat

pub flat_unmade : (r : FlatRequest) (end : End) (run : Run) → IsNotRead kinds.Deck fault_text (flat_job r.top) (opening Deck r.deck) end run → AreRest (Deck ∷ []) run → Ends [] (flat_course r) end run
unfolding flat_course
flat_unmade r end run h rest = unread_ends [] kinds.Deck fault_text (flat_job r.top) (opening Deck r.deck) _ end run h rest

pub flat_made : (r : FlatRequest) (text : List ℕ) (run : Run) → IsRead (flat_job r.top) (opening Deck r.deck) text run → AreRest (Deck ∷ []) run → Makes [] (flat_course r) (flat_outs r) (text ∷ []) run
unfolding flat_course
flat_made r text run h rest = read_makes [] kinds.Deck fault_text (flat_job r.top) (opening Deck r.deck) text _ (flat_outs r) (text ∷ []) run h (refl, refl, rest)

-- ---- lift

pub lift_no_deck : (r : Request) (end : End) (run : Run) → IsNotRead kinds.Deck fault_text (read_deck true) (opening Deck r.deck) end run → AreRest (Deck ∷ []) run → Ends [] (lift_course r) end run
unfolding lift_course
lift_no_deck r end run h rest = unread_ends [] kinds.Deck fault_text (read_deck true) (opening Deck r.deck) _ end run h rest

pub lift_no_library : (r : Request) (deck : decks.Deck) (end : End) (run : Run) → IsRead (read_deck true) (opening Deck r.deck) deck run → IsNotRead kinds.Library cell_text read_library (opening Library r.library) end run
    → AreRest (Library ∷ Deck ∷ []) run → Ends [] (lift_course r) end run
unfolding lift_course
lift_no_library r deck end run d h rest = read_ends [] kinds.Deck fault_text (read_deck true) (opening Deck r.deck) deck _ end run d
    (unread_ends (Deck ∷ []) kinds.Library cell_text read_library (opening Library r.library) _ end run h rest)

pub lift_refused : (r : Request) (deck : decks.Deck) (library : libraries.Library) (end : End) (run : Run) → IsRead (read_deck true) (opening Deck r.deck) deck run → IsRead read_library (opening Library r.library) library run
    → Refuses kinds.Deck lift_text (lifted_flat r.top r.keep deck library) end → AreRest (Library ∷ Deck ∷ []) run → Ends [] (lift_course r) end run
unfolding lift_course
lift_refused r deck library end run d l h rest = read_ends [] kinds.Deck fault_text (read_deck true) (opening Deck r.deck) deck _ end run d
    (read_ends (Deck ∷ []) kinds.Library cell_text read_library (opening Library r.library) library _ end run l
    (refused_ends (Library ∷ Deck ∷ []) kinds.Deck lift_text (lifted_flat r.top r.keep deck library) _ end run h rest))

pub lift_made : (r : Request) (deck : decks.Deck) (library : libraries.Library) (f : Flat) (texts : Texts) (run : Run) → IsRead (read_deck true) (opening Deck r.deck) deck run → IsRead read_library (opening Library r.library) library run
    → lifted_flat r.top r.keep deck library ≡ Ok f → AreLiftTexts r.keep library f texts → AreRest (Library ∷ Deck ∷ []) run → Makes [] (lift_course r) (lift_outs r) (texts_in_order texts) run
unfolding lift_course
lift_made r deck library f texts run d l is are rest = read_makes [] kinds.Deck fault_text (read_deck true) (opening Deck r.deck) deck _ (lift_outs r) (texts_in_order texts) run d
    (read_makes (Deck ∷ []) kinds.Library cell_text read_library (opening Library r.library) library _ (lift_outs r) (texts_in_order texts) run l
    (accepted_makes (Library ∷ Deck ∷ []) kinds.Deck lift_text (lifted_flat r.top r.keep deck library) f _ (lift_outs r) (texts_in_order texts) run is (refl, are, rest)))

pub lift_passed : (r : Request) (deck : decks.Deck) (library : libraries.Library) (f : Flat) (limit : OutLimit) (run : Run) → IsRead (read_deck true) (opening Deck r.deck) deck run → IsRead read_library (opening Library r.library) library run
    → lifted_flat r.top r.keep deck library ≡ Ok f → IsLiftLimit r.keep library f limit → AreRest (Library ∷ Deck ∷ []) run → Ends [] (lift_course r) (ended kinds.Limit (limit_text limit)) run
unfolding lift_course
lift_passed r deck library f limit run d l is passed rest = read_ends [] kinds.Deck fault_text (read_deck true) (opening Deck r.deck) deck _ (ended kinds.Limit (limit_text limit)) run d
    (read_ends (Deck ∷ []) kinds.Library cell_text read_library (opening Library r.library) library _ (ended kinds.Limit (limit_text limit)) run l
    (accepted_ends (Library ∷ Deck ∷ []) kinds.Deck lift_text (lifted_flat r.top r.keep deck library) f _ (ended kinds.Limit (limit_text limit)) run is
    (inl (kinds.Limit, limit_text limit, (limit, refl, refl, passed), refl, rest))))

-- ---- restore

pub restore_no_deck : (r : RestoreRequest) (end : End) (run : Run) → IsNotRead kinds.Deck fault_text (flat_of r.top) (opening Deck r.lifted) end run → AreRest (Deck ∷ []) run → Ends [] (restore_course r) end run
unfolding restore_course
restore_no_deck r end run h rest = unread_ends [] kinds.Deck fault_text (flat_of r.top) (opening Deck r.lifted) _ end run h rest

pub restore_no_map : (r : RestoreRequest) (f : Flat) (end : End) (run : Run) → IsRead (flat_of r.top) (opening Deck r.lifted) f run → IsNotRead kinds.Map maps.fault_text read_map (opening Map r.map) end run
    → AreRest (Map ∷ Deck ∷ []) run → Ends [] (restore_course r) end run
unfolding restore_course
restore_no_map r f end run d h rest = read_ends [] kinds.Deck fault_text (flat_of r.top) (opening Deck r.lifted) f _ end run d
    (unread_ends (Deck ∷ []) kinds.Map maps.fault_text read_map (opening Map r.map) _ end run h rest)

pub restore_refused : (r : RestoreRequest) (f : Flat) (m : NameMap) (end : End) (run : Run) → IsRead (flat_of r.top) (opening Deck r.lifted) f run → IsRead read_map (opening Map r.map) m run
    → IsNotRestored f m end → AreRest (Map ∷ Deck ∷ []) run → Ends [] (restore_course r) end run
unfolding restore_course
restore_refused r f m end run d i (inl refuses) rest = read_ends [] kinds.Deck fault_text (flat_of r.top) (opening Deck r.lifted) f _ end run d
    (read_ends (Deck ∷ []) kinds.Map maps.fault_text read_map (opening Map r.map) m _ end run i
    (refused_ends (Map ∷ Deck ∷ []) kinds.Map names.fault_text (restored_flat f m) _ end run refuses rest))
restore_refused r f m end run d i (inr long) rest = read_ends [] kinds.Deck fault_text (flat_of r.top) (opening Deck r.lifted) f _ end run d
    (read_ends (Deck ∷ []) kinds.Map maps.fault_text read_map (opening Map r.map) m _ end run i
    (accepted_ends (Map ∷ Deck ∷ []) kinds.Map names.fault_text (restored_flat f m) long.restored _ end run long.restored_is
    (refused_ends (Map ∷ Deck ∷ []) kinds.Limit names.limit_text (text_within long.restored) _ end run long.refuses rest)))

pub restore_made : (r : RestoreRequest) (f : Flat) (m : NameMap) (text : List ℕ) (run : Run) → IsRead (flat_of r.top) (opening Deck r.lifted) f run → IsRead read_map (opening Map r.map) m run
    → IsRestoredText f m text → AreRest (Map ∷ Deck ∷ []) run → Makes [] (restore_course r) (restore_outs r) (text ∷ []) run
unfolding restore_course
restore_made r f m text run d i made rest = read_makes [] kinds.Deck fault_text (flat_of r.top) (opening Deck r.lifted) f _ (restore_outs r) (text ∷ []) run d
    (read_makes (Deck ∷ []) kinds.Map maps.fault_text read_map (opening Map r.map) m _ (restore_outs r) (text ∷ []) run i
    (accepted_makes (Map ∷ Deck ∷ []) kinds.Map names.fault_text (restored_flat f m) made.restored _ (restore_outs r) (text ∷ []) run made.restored_is
    (accepted_makes (Map ∷ Deck ∷ []) kinds.Limit names.limit_text (text_within made.restored) text _ (restore_outs r) (text ∷ []) run made.text_is (refl, refl, rest))))
