use Rattle.std.proofs.Common.{ℕ, List, sym, subst}
use Rattle.std.specs.Option.{option_copied}
use Rattle.gl_text.specs.Flattening.{Flat, flat_of}
use Rattle.gl_desk.specs.declared.slot.Slot.TheVariants.{Deck}
use Rattle.gl_job.specs.declared.kind.Kind.TheVariants as kinds
use Rattle.gl_job.specs.Runs.{run_of, opening, IsWhole}
use Rattle.gl_deck.specs.Texts.{fault_text}
use Rattle.gl_run.proofs.Reading.{flat_read_of, not_read_of, stopped_of}
use Rattle.gl_run.proofs.restore.read_flat_file.Goals as goal

pub returns-in-Ok-clause-flat : goal.returns-in-Ok-clause-flat
returns-in-Ok-clause-flat g c =
    let r = run_of g.D.Desk.shows g.D.Desk.held g.D.Desk.wants c.args.desk.now c.read.new.desk in
    let o = opening Deck c.args.word.now in
    let whole = subst (λ (bytes : List ℕ). IsWhole r o bytes) (sym c.deref.ensures.value) c.in-Ok.ensures.whole in
    flat_read_of (λ (flat : Flat). flat) (option_copied c.args.top) o c.deref.result.now r c.flat_deck_of.result whole c.flat_deck_of.ensures.flat

pub returns-in-Ok-clause-none : goal.returns-in-Ok-clause-none
returns-in-Ok-clause-none g c =
    let r = run_of g.D.Desk.shows g.D.Desk.held g.D.Desk.wants c.args.desk.now c.read.new.desk in
    let o = opening Deck c.args.word.now in
    let whole = subst (λ (bytes : List ℕ). IsWhole r o bytes) (sym c.deref.ensures.value) c.in-Ok.ensures.whole in
    not_read_of kinds.Deck fault_text (flat_of (option_copied c.args.top)) o c.deref.result.now r c.flat_deck_of.result whole c.flat_deck_of.ensures.refused

pub returns-in-Err-clause-none : goal.returns-in-Err-clause-none
returns-in-Err-clause-none g c =
    let r = run_of g.D.Desk.shows g.D.Desk.held g.D.Desk.wants c.args.desk.now c.read.new.desk in
    stopped_of kinds.Deck fault_text (flat_of (option_copied c.args.top)) (opening Deck c.args.word.now) r c.in-Err.stop c.in-Err.ensures.unread
