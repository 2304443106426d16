-- How the job `lift` goes on when both inputs were read, by what is made of them.
use Rattle.std.proofs.Common.{◌≡◌, ℕ, List, [], ◌∷◌, Option, None, Some, true, Ok, refl, subst}
use Rattle.std.specs.Prelude.{Result, option_map}
use Rattle.gl_fault.specs.Refusals.{IsRefusal}
use Rattle.gl_text.specs.LogicalLines.{Fault}
use Rattle.gl_text.specs.Decks as decks
use Rattle.gl_text.specs.Decks.{read_deck}
use Rattle.gl_text.specs.Flattening.{Flat}
use Rattle.gl_base.specs.Libraries as libraries
use Rattle.gl_base.specs.Libraries.{read_library}
use Rattle.gl_lifting.specs.Runs as lifting
use Rattle.gl_lifting.specs.OutLimits.{OutLimit}
use Rattle.gl_lifting.specs.LiftJobs.{Texts}
use Rattle.gl_lifting.specs.Lifted.{Options}
use Rattle.gl_flat.specs.Refusals as flats
use Rattle.gl_lib.specs.Kept.{unknown_of}
use Rattle.gl_lib.specs.Texts.{keep_text}
use Rattle.gl_limit.specs.Limits.{limit_value}
use Rattle.gl_lift.specs.Lifting.{of_flat, of_keep, lifted_flat, HaveLimit}
use Rattle.gl_lift.specs.Counted.{HaveCounted}
use Rattle.gl_lift.specs.Refusals.{IsNotLifted, AreLifted}
use Rattle.gl_lift.specs.declared.fault.LiftFault.{LiftFault}
use Rattle.gl_lift.specs.declared.fault.LiftFault.TheVariants as lifts
use Rattle.gl_desk.specs.declared.slot.Slot.TheVariants.{Deck, Library}
use Rattle.gl_job.specs.declared.kind.Kind.TheVariants as kinds
use Rattle.gl_job.specs.Texts.{End}
use Rattle.gl_job.specs.Runs.{Run, opening, AreRest}
use Rattle.gl_job.specs.Courses.{Ends, Makes}
use Rattle.gl_job.specs.Points.{IsRead, Refuses, refusal_end}
use Rattle.gl_job.proofs.Points.{end_refuses}
use Rattle.gl_deck.specs.Texts.{fault_text}
use Rattle.gl_words.specs.Jobs.{Request}
use Rattle.gl_run.specs.Jobs.{lift_text, lift_course, lift_outs, texts_in_order}
use Rattle.gl_run.specs.Endings.{lift_end}
use Rattle.gl_run.specs.WayBack.{options_of}
use Rattle.gl_run.proofs.Courses.{lift_refused, lift_passed, lift_made}

-- the limit that is counted of what was read is the one that is passed
abbrev pub CountedAreLimits : Type 0
CountedAreLimits = (deck_bytes library_bytes : List ℕ) (o : Options) (deck : decks.Deck) (library : libraries.Library) (flat : Flat) (limit : Option OutLimit) (texts : Texts)
    → read_deck true deck_bytes ≡ Ok deck → read_library library_bytes ≡ Ok library → lifted_flat o.top o.keep deck library ≡ Ok flat
    → HaveCounted (lifting.run_of flat library o.keep) flat limit texts → HaveLimit (lifting.run_of flat library o.keep) flat limit texts

flat_end : (fault : Option Fault) → refusal_end kinds.Deck lift_text (option_map of_flat fault) ≡ refusal_end kinds.Deck fault_text fault
flat_end None = refl
flat_end (Some fault) = refl

keep_end : (name : Option (List ℕ)) → refusal_end kinds.Deck lift_text (option_map of_keep name) ≡ refusal_end kinds.Deck keep_text name
keep_end None = refl
keep_end (Some name) = refl

module _ (law : CountedAreLimits) (q : Request) (deck : decks.Deck) (library : libraries.Library) (run : Run)
    (d : IsRead (read_deck true) (opening Deck q.deck) deck run) (l : IsRead read_library (opening Library q.library) library run) (rest : AreRest (Library ∷ Deck ∷ []) run) where
  pub lift_ended : (fault : LiftFault) → IsNotLifted q.keep library (lifted_flat q.top q.keep deck library) fault → Ends [] (lift_course q) (lift_end fault) run
  lift_ended (lifts.Flat fault) h =
      let given = flats.fault_of fault in
      lift_refused q deck library (refusal_end kinds.Deck fault_text given) run d l
      (subst (Refuses kinds.Deck lift_text (lifted_flat q.top q.keep deck library)) (flat_end given) (end_refuses kinds.Deck lift_text (option_map of_flat given) (lifted_flat q.top q.keep deck library) h)) rest
  lift_ended (lifts.Keep fault) h =
      let given = unknown_of fault in
      lift_refused q deck library (refusal_end kinds.Deck keep_text given) run d l
      (subst (Refuses kinds.Deck lift_text (lifted_flat q.top q.keep deck library)) (keep_end given) (end_refuses kinds.Deck lift_text (option_map of_keep given) (lifted_flat q.top q.keep deck library) h)) rest
  lift_ended (lifts.Limit limit) h =
      lift_passed q deck library h.0 (limit_value limit) run d l h.1
      (h.2.0, law d.bytes l.bytes (options_of q) deck library h.0 (Some (limit_value limit)) h.2.0 d.value_is l.value_is h.1 h.2.1) rest
  lift_ended lifts.Memory h =
      lift_refused q deck library (lift_end lifts.Memory) run d l (end_refuses kinds.Deck lift_text None (lifted_flat q.top q.keep deck library) tt) rest

  pub lift_written : (texts : Texts) → AreLifted q.keep library (lifted_flat q.top q.keep deck library) texts → Makes [] (lift_course q) (lift_outs q) (texts_in_order texts) run
  lift_written texts h =
      lift_made q deck library h.0 texts run d l h.1 (law d.bytes l.bytes (options_of q) deck library h.0 None texts d.value_is l.value_is h.1 h.2) rest
