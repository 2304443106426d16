use Rattle.std.proofs.Common.{◌≡◌, ◌≢◌, ℕ, List, [], ◌∷◌, refl, sym, ◌∙◌, subst}
use Rattle.std.proofs.lemmas.Result.{IfOk-weaker, IfErr-weaker}
use Rattle.std.specs.Prelude.{Option}
use Rattle.gl_text.specs.Flattening.{flat_of}
use Rattle.gl_desk.specs.declared.slot.Slot.{Slot}
use Rattle.gl_desk.specs.declared.slot.Slot.TheVariants.{Deck, Map}
use Rattle.gl_lifting.specs.MapReading.{read_map}
use Rattle.gl_job.specs.declared.kind.Kind.TheVariants as kinds
use Rattle.gl_job.specs.Runs.{Run, run_of, opening, AreRest}
use Rattle.gl_job.specs.Points.{IsRead, IsNotRead}
use Rattle.gl_job.proofs.Points.{read_same, not_read_same}
use Rattle.gl_deck.specs.Texts.{fault_text}
use Rattle.gl_map.specs.Texts as maps
use Rattle.gl_words.specs.Names.{restore_names}
use Rattle.gl_run.specs.Endings.{end_of}
use Rattle.gl_run.specs.Restoring.{IsFlatRead}
use Rattle.gl_run.proofs.Courses.{restore_no_deck, restore_no_map, restore_refused, restore_made}
use Rattle.gl_run.proofs.Renaming.{text_of_plain, no_text_of_plain}
use Rattle.gl_run.proofs.restore.make_restore.Goals as goal

pub returns-in-Err-clause-unmade : goal.returns-in-Err-clause-unmade
returns-in-Err-clause-unmade g c =
    let words = restore_names c.args.words.now in
    let r = run_of g.D.Desk.shows g.D.Desk.held g.D.Desk.wants c.args.desk.now c.read_flat_file.new.desk in
    let end = end_of c.in-Err.ending in
    let none = subst (λ (top : Option (List ℕ)). IsNotRead kinds.Deck fault_text (flat_of top) (opening Deck words.lifted) end r) c.as_ref.ensures.value c.in-Err.ensures.none in
    restore_no_deck words end r none (λ slot apart quiet. c.read_flat_file.ensures.others slot apart.0)

pub returns-in-Err-read_map_file-clause-unmade : goal.returns-in-Err-read_map_file-clause-unmade
returns-in-Err-read_map_file-clause-unmade g c =
    let words = restore_names c.args.words.now in
    let m = run_of g.D.Desk.shows g.D.Desk.held g.D.Desk.wants c.args.desk.now c.read_flat_file.new.desk in
    let s = run_of g.D.Desk.shows g.D.Desk.held g.D.Desk.wants c.read_flat_file.new.desk c.read_map_file.new.desk in
    let r = run_of g.D.Desk.shows g.D.Desk.held g.D.Desk.wants c.args.desk.now c.read_map_file.new.desk in
    let end = end_of c.in-Err-read_map_file.ending in
    let read = subst (λ (top : Option (List ℕ)). IsFlatRead top (opening Deck words.lifted) c.in-Ok.flat m) c.as_ref.ensures.value c.in-Ok.ensures.flat in
    let deck : IsRead (flat_of words.top) (opening Deck words.lifted) read.flat r = read_same (flat_of words.top) (opening Deck words.lifted) read.flat m r
    (record { before = refl; after = sym (c.read_map_file.ensures.others Deck (λ e. absurd cc)); wanted = refl }) refl read.deck_read in
    let none : IsNotRead kinds.Map maps.fault_text read_map (opening Map words.map) end r = not_read_same kinds.Map maps.fault_text read_map (opening Map words.map) end s r
    (record { before = c.read_flat_file.ensures.others Map (λ e. absurd cc); after = refl; wanted = c.read_flat_file.ensures.names.same_wants Map }) (c.read_flat_file.ensures.names.same_held Map words.map) c.in-Err-read_map_file.ensures.none in
    restore_no_map words read.flat end r deck none (λ slot apart quiet. c.read_map_file.ensures.others slot apart.0 ∙ c.read_flat_file.ensures.others slot apart.1.0)

pub returns-clause-unmade : goal.returns-clause-unmade
returns-clause-unmade g c =
    let words = restore_names c.args.words.now in
    let m = run_of g.D.Desk.shows g.D.Desk.held g.D.Desk.wants c.args.desk.now c.read_flat_file.new.desk in
    let s = run_of g.D.Desk.shows g.D.Desk.held g.D.Desk.wants c.read_flat_file.new.desk c.read_map_file.new.desk in
    let r = run_of g.D.Desk.shows g.D.Desk.held g.D.Desk.wants c.args.desk.now c.read_map_file.new.desk in
    let read = subst (λ (top : Option (List ℕ)). IsFlatRead top (opening Deck words.lifted) c.in-Ok.flat m) c.as_ref.ensures.value c.in-Ok.ensures.flat in
    let deck : IsRead (flat_of words.top) (opening Deck words.lifted) read.flat r = read_same (flat_of words.top) (opening Deck words.lifted) read.flat m r
    (record { before = refl; after = sym (c.read_map_file.ensures.others Deck (λ e. absurd cc)); wanted = refl }) refl read.deck_read in
    let names : IsRead read_map (opening Map words.map) c.in-Ok-read_map_file.names r = read_same read_map (opening Map words.map) c.in-Ok-read_map_file.names s r
    (record { before = c.read_flat_file.ensures.others Map (λ e. absurd cc); after = refl; wanted = c.read_flat_file.ensures.names.same_wants Map }) (c.read_flat_file.ensures.names.same_held Map words.map) c.in-Ok-read_map_file.ensures.map in
    IfErr-weaker c.restored_text.result _ _ (λ ending h. restore_refused words read.flat c.in-Ok-read_map_file.names (end_of ending) r deck names
    (no_text_of_plain read.flat c.in-Ok.flat c.in-Ok-read_map_file.names (end_of ending) read.value_is h)
    (λ slot apart quiet. c.read_map_file.ensures.others slot apart.0 ∙ c.read_flat_file.ensures.others slot apart.1.0)) c.restored_text.ensures.refused

pub returns-clause-made : goal.returns-clause-made
returns-clause-made g c =
    let words = restore_names c.args.words.now in
    let m = run_of g.D.Desk.shows g.D.Desk.held g.D.Desk.wants c.args.desk.now c.read_flat_file.new.desk in
    let s = run_of g.D.Desk.shows g.D.Desk.held g.D.Desk.wants c.read_flat_file.new.desk c.read_map_file.new.desk in
    let r = run_of g.D.Desk.shows g.D.Desk.held g.D.Desk.wants c.args.desk.now c.read_map_file.new.desk in
    let read = subst (λ (top : Option (List ℕ)). IsFlatRead top (opening Deck words.lifted) c.in-Ok.flat m) c.as_ref.ensures.value c.in-Ok.ensures.flat in
    let deck : IsRead (flat_of words.top) (opening Deck words.lifted) read.flat r = read_same (flat_of words.top) (opening Deck words.lifted) read.flat m r
    (record { before = refl; after = sym (c.read_map_file.ensures.others Deck (λ e. absurd cc)); wanted = refl }) refl read.deck_read in
    let names : IsRead read_map (opening Map words.map) c.in-Ok-read_map_file.names r = read_same read_map (opening Map words.map) c.in-Ok-read_map_file.names s r
    (record { before = c.read_flat_file.ensures.others Map (λ e. absurd cc); after = refl; wanted = c.read_flat_file.ensures.names.same_wants Map }) (c.read_flat_file.ensures.names.same_held Map words.map) c.in-Ok-read_map_file.ensures.map in
    IfOk-weaker c.restored_text.result _ _ (λ text h. restore_made words read.flat c.in-Ok-read_map_file.names text.items r deck names
    (text_of_plain read.flat c.in-Ok.flat c.in-Ok-read_map_file.names text.items read.value_is h)
    (λ slot apart quiet. c.read_map_file.ensures.others slot apart.0 ∙ c.read_flat_file.ensures.others slot apart.1.0)) c.restored_text.ensures.text

pub returns-clause-others : goal.returns-clause-others
returns-clause-others g c = λ slot deck map. c.read_map_file.ensures.others slot map ∙ c.read_flat_file.ensures.others slot deck
