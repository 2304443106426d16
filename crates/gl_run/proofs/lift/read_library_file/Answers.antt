use Rattle.std.proofs.Common.{ℕ, List, sym, subst}
use Rattle.gl_desk.specs.declared.slot.Slot.TheVariants.{Library}
use Rattle.gl_base.specs.Libraries.{read_library}
use Rattle.gl_job.specs.declared.kind.Kind.TheVariants as kinds
use Rattle.gl_job.specs.Runs.{run_of, opening, IsWhole}
use Rattle.gl_cells.specs.Texts.{cell_text}
use Rattle.gl_run.proofs.Reading.{read_of, not_read_of, stopped_of}
use Rattle.gl_run.proofs.lift.read_library_file.Goals as goal

pub returns-in-Ok-clause-library : goal.returns-in-Ok-clause-library
returns-in-Ok-clause-library g c =
    let r = run_of g.D.Desk.shows g.D.Desk.held g.D.Desk.wants c.args.desk.now c.read.new.desk in
    let o = opening Library c.args.word.now in
    let whole = subst (λ (bytes : List ℕ). IsWhole r o bytes) (sym c.deref.ensures.value) c.in-Ok.ensures.whole in
    read_of (λ library. library) read_library o c.deref.result.now r c.library_of.result whole c.library_of.ensures.library

pub returns-in-Ok-clause-none : goal.returns-in-Ok-clause-none
returns-in-Ok-clause-none g c =
    let r = run_of g.D.Desk.shows g.D.Desk.held g.D.Desk.wants c.args.desk.now c.read.new.desk in
    let o = opening Library c.args.word.now in
    let whole = subst (λ (bytes : List ℕ). IsWhole r o bytes) (sym c.deref.ensures.value) c.in-Ok.ensures.whole in
    not_read_of kinds.Library cell_text read_library o c.deref.result.now r c.library_of.result whole c.library_of.ensures.refused

pub returns-in-Err-clause-none : goal.returns-in-Err-clause-none
returns-in-Err-clause-none g c =
    let r = run_of g.D.Desk.shows g.D.Desk.held g.D.Desk.wants c.args.desk.now c.read.new.desk in
    stopped_of kinds.Library cell_text read_library (opening Library c.args.word.now) r c.in-Err.stop c.in-Err.ensures.unread
