use Rattle.std.proofs.Common.{ℕ, List, sym, subst}
use Rattle.std.specs.Prelude.{Option, IfOk, IfErr}
use Rattle.std.specs.Option.{option_copied}
use Rattle.gl_text.specs.Flattening.{flat_job}
use Rattle.gl_desk.specs.declared.slot.Slot.TheVariants.{Deck}
use Rattle.gl_job.specs.declared.kind.Kind.TheVariants as kinds
use Rattle.gl_job.specs.Runs.{run_of, opening, IsWhole}
use Rattle.gl_job.specs.Points.{IsRead, IsNotRead}
use Rattle.gl_deck.specs.Texts.{fault_text}
use Rattle.gl_run.specs.Endings.{end_of}
use Rattle.gl_run.proofs.Reading.{read_of, not_read_of, stopped_of}
use Rattle.gl_run.proofs.flat.make_flat.Goals as goal

pub returns-in-Ok-clause-made : goal.returns-in-Ok-clause-made
returns-in-Ok-clause-made g c =
    let r = run_of g.D.Desk.shows g.D.Desk.held g.D.Desk.wants c.args.desk.now c.read.new.desk in
    let o = opening Deck c.args.words.now.deck.now in
    let whole = subst (λ (bytes : List ℕ). IsWhole r o bytes) (sym c.deref.ensures.value) c.in-Ok.ensures.whole in
    let made = read_of (λ text. text.items) (flat_job (option_copied c.as_ref.result)) o c.deref.result.now r c.flat_text_of.result whole c.flat_text_of.ensures.text in
    subst (λ (top : Option (List ℕ)). IfOk c.flat_text_of.result (λ text. IsRead (flat_job top) o text.items r)) c.as_ref.ensures.value made

pub returns-in-Ok-clause-unmade : goal.returns-in-Ok-clause-unmade
returns-in-Ok-clause-unmade g c =
    let r = run_of g.D.Desk.shows g.D.Desk.held g.D.Desk.wants c.args.desk.now c.read.new.desk in
    let o = opening Deck c.args.words.now.deck.now in
    let whole = subst (λ (bytes : List ℕ). IsWhole r o bytes) (sym c.deref.ensures.value) c.in-Ok.ensures.whole in
    let unmade = not_read_of kinds.Deck fault_text (flat_job (option_copied c.as_ref.result)) o c.deref.result.now r c.flat_text_of.result whole c.flat_text_of.ensures.refused in
    subst (λ (top : Option (List ℕ)). IfErr c.flat_text_of.result (λ ending. IsNotRead kinds.Deck fault_text (flat_job top) o (end_of ending) r)) c.as_ref.ensures.value unmade

pub returns-in-Err-clause-unmade : goal.returns-in-Err-clause-unmade
returns-in-Err-clause-unmade g c =
    let r = run_of g.D.Desk.shows g.D.Desk.held g.D.Desk.wants c.args.desk.now c.read.new.desk in
    stopped_of kinds.Deck fault_text (flat_job c.args.words.now.top) (opening Deck c.args.words.now.deck.now) r c.in-Err.stop c.in-Err.ensures.unread
