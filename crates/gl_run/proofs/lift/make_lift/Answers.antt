use Rattle.std.proofs.Common.{◌≡◌, ◌≢◌, ℕ, List, [], ◌∷◌, true, refl, ap, sym, ◌∙◌, subst}
use Rattle.std.specs.Prelude.{Option}
use Rattle.std.specs.Option.{option_copied}
use Rattle.gl_text.specs.Decks.{read_deck}
use Rattle.gl_lift.specs.Lifting.{lifted_flat}
use Rattle.gl_desk.specs.declared.slot.Slot.{Slot}
use Rattle.gl_desk.specs.declared.slot.Slot.TheVariants.{Deck, Library}
use Rattle.gl_base.specs.Libraries.{read_library}
use Rattle.gl_job.specs.declared.kind.Kind.TheVariants as kinds
use Rattle.gl_job.specs.Runs.{Run, run_of, opening, AreRest}
use Rattle.gl_job.specs.Points.{IsRead, IsNotRead}
use Rattle.gl_job.specs.Texts.{End}
use Rattle.gl_job.specs.Courses.{Ends}
use Rattle.gl_job.proofs.Points.{read_same, not_read_same}
use Rattle.gl_lift.specs.Refusals.{IsNotLifted, AreLifted}
use Rattle.gl_words.specs.Names.{lift_names}
use Rattle.gl_cells.specs.Texts.{cell_text}
use Rattle.gl_run.specs.Jobs.{lift_course}
use Rattle.gl_run.specs.Endings.{end_of}
use Rattle.gl_run.proofs.Courses.{lift_no_deck, lift_no_library}
use Rattle.gl_run.proofs.Lifting.{lift_ended, lift_written}
use Rattle.gl_run.proofs.lift.make_lift.Goals as goal

pub returns-in-Err-clause-unmade : goal.returns-in-Err-clause-unmade
returns-in-Err-clause-unmade g c =
    let r = run_of g.D.Desk.shows g.D.Desk.held g.D.Desk.wants c.args.desk.now c.read_deck_file.new.desk in
    lift_no_deck (lift_names c.args.words.now) (end_of c.in-Err.ending) r c.in-Err.ensures.none (λ slot apart quiet. c.read_deck_file.ensures.others slot apart.0)

pub returns-in-Err-read_library_file-clause-unmade : goal.returns-in-Err-read_library_file-clause-unmade
returns-in-Err-read_library_file-clause-unmade g c =
    let words = lift_names c.args.words.now in
    let m = run_of g.D.Desk.shows g.D.Desk.held g.D.Desk.wants c.args.desk.now c.read_deck_file.new.desk in
    let s = run_of g.D.Desk.shows g.D.Desk.held g.D.Desk.wants c.read_deck_file.new.desk c.read_library_file.new.desk in
    let r = run_of g.D.Desk.shows g.D.Desk.held g.D.Desk.wants c.args.desk.now c.read_library_file.new.desk in
    let deck : IsRead (read_deck true) (opening Deck words.deck) c.in-Ok.deck r = read_same (read_deck true) (opening Deck words.deck) c.in-Ok.deck m r
    (record { before = refl; after = sym (c.read_library_file.ensures.others Deck (λ e. absurd cc)); wanted = refl }) refl c.in-Ok.ensures.deck in
    let none : IsNotRead kinds.Library cell_text read_library (opening Library words.library) (end_of c.in-Err-read_library_file.ending) r = not_read_same kinds.Library cell_text read_library (opening Library words.library) (end_of c.in-Err-read_library_file.ending) s r
    (record { before = c.read_deck_file.ensures.others Library (λ e. absurd cc); after = refl; wanted = c.read_deck_file.ensures.names.same_wants Library }) (c.read_deck_file.ensures.names.same_held Library words.library) c.in-Err-read_library_file.ensures.none in
    lift_no_library words c.in-Ok.deck (end_of c.in-Err-read_library_file.ending) r deck none (λ slot apart quiet. c.read_library_file.ensures.others slot apart.0 ∙ c.read_deck_file.ensures.others slot apart.1.0)

pub returns-clause-unmade : goal.returns-clause-unmade
returns-clause-unmade g c =
    let words = lift_names c.args.words.now in
    let m = run_of g.D.Desk.shows g.D.Desk.held g.D.Desk.wants c.args.desk.now c.read_deck_file.new.desk in
    let s = run_of g.D.Desk.shows g.D.Desk.held g.D.Desk.wants c.read_deck_file.new.desk c.read_library_file.new.desk in
    let r = run_of g.D.Desk.shows g.D.Desk.held g.D.Desk.wants c.args.desk.now c.read_library_file.new.desk in
    let deck : IsRead (read_deck true) (opening Deck words.deck) c.in-Ok.deck r = read_same (read_deck true) (opening Deck words.deck) c.in-Ok.deck m r
    (record { before = refl; after = sym (c.read_library_file.ensures.others Deck (λ e. absurd cc)); wanted = refl }) refl c.in-Ok.ensures.deck in
    let library : IsRead read_library (opening Library words.library) c.in-Ok-read_library_file.library r = read_same read_library (opening Library words.library) c.in-Ok-read_library_file.library s r
    (record { before = c.read_deck_file.ensures.others Library (λ e. absurd cc); after = refl; wanted = c.read_deck_file.ensures.names.same_wants Library }) (c.read_deck_file.ensures.names.same_held Library words.library) c.in-Ok-read_library_file.ensures.library in
    let fault = c.in-Err-texts_of.fault in
    let by-keep = subst (λ (keep : List (List ℕ)). IsNotLifted keep c.in-Ok-read_library_file.library (lifted_flat (option_copied c.as_ref.result) keep c.in-Ok.deck c.in-Ok-read_library_file.library) fault) c.deref.ensures.value c.in-Err-texts_of.ensures.refused in
    let refused = subst (λ (top : Option (List ℕ)). IsNotLifted words.keep c.in-Ok-read_library_file.library (lifted_flat top words.keep c.in-Ok.deck c.in-Ok-read_library_file.library) fault) c.as_ref.ensures.value by-keep in
    subst (λ (end : End). Ends [] (lift_course words) end r) (sym c.lift_ending.ensures.end)
    (lift_ended c.counted_limits_are_limits.ensures.limit words c.in-Ok.deck c.in-Ok-read_library_file.library r deck library
    (λ slot apart quiet. c.read_library_file.ensures.others slot apart.0 ∙ c.read_deck_file.ensures.others slot apart.1.0) fault refused)

pub returns-in-Ok-texts_of-clause-made : goal.returns-in-Ok-texts_of-clause-made
returns-in-Ok-texts_of-clause-made g c =
    let words = lift_names c.args.words.now in
    let m = run_of g.D.Desk.shows g.D.Desk.held g.D.Desk.wants c.args.desk.now c.read_deck_file.new.desk in
    let s = run_of g.D.Desk.shows g.D.Desk.held g.D.Desk.wants c.read_deck_file.new.desk c.read_library_file.new.desk in
    let r = run_of g.D.Desk.shows g.D.Desk.held g.D.Desk.wants c.args.desk.now c.read_library_file.new.desk in
    let deck : IsRead (read_deck true) (opening Deck words.deck) c.in-Ok.deck r = read_same (read_deck true) (opening Deck words.deck) c.in-Ok.deck m r
    (record { before = refl; after = sym (c.read_library_file.ensures.others Deck (λ e. absurd cc)); wanted = refl }) refl c.in-Ok.ensures.deck in
    let library : IsRead read_library (opening Library words.library) c.in-Ok-read_library_file.library r = read_same read_library (opening Library words.library) c.in-Ok-read_library_file.library s r
    (record { before = c.read_deck_file.ensures.others Library (λ e. absurd cc); after = refl; wanted = c.read_deck_file.ensures.names.same_wants Library }) (c.read_deck_file.ensures.names.same_held Library words.library) c.in-Ok-read_library_file.ensures.library in
    let texts = c.in-Ok-texts_of.texts in
    let by-keep = subst (λ (keep : List (List ℕ)). AreLifted keep c.in-Ok-read_library_file.library (lifted_flat (option_copied c.as_ref.result) keep c.in-Ok.deck c.in-Ok-read_library_file.library) texts) c.deref.ensures.value c.in-Ok-texts_of.ensures.texts in
    let lifted = subst (λ (top : Option (List ℕ)). AreLifted words.keep c.in-Ok-read_library_file.library (lifted_flat top words.keep c.in-Ok.deck c.in-Ok-read_library_file.library) texts) c.as_ref.ensures.value by-keep in
    lift_written c.counted_limits_are_limits.ensures.limit words c.in-Ok.deck c.in-Ok-read_library_file.library r deck library
    (λ slot apart quiet. c.read_library_file.ensures.others slot apart.0 ∙ c.read_deck_file.ensures.others slot apart.1.0) texts lifted

pub returns-in-Ok-texts_of-clause-others : goal.returns-in-Ok-texts_of-clause-others
returns-in-Ok-texts_of-clause-others g c = λ slot deck library. c.read_library_file.ensures.others slot library ∙ c.read_deck_file.ensures.others slot deck
