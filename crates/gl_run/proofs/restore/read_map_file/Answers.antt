use Rattle.std.proofs.Common.{ℕ, List, sym, subst}
use Rattle.gl_desk.specs.declared.slot.Slot.TheVariants.{Map}
use Rattle.gl_lifting.specs.MapReading.{read_map}
use Rattle.gl_lifting.specs.NameMaps.{NameMap}
use Rattle.gl_job.specs.declared.kind.Kind.TheVariants as kinds
use Rattle.gl_job.specs.Runs.{run_of, opening, IsWhole}
use Rattle.gl_map.specs.Texts.{fault_text}
use Rattle.gl_run.proofs.Reading.{read_of, not_read_of, stopped_of}
use Rattle.gl_run.proofs.restore.read_map_file.Goals as goal

pub returns-in-Ok-clause-map : goal.returns-in-Ok-clause-map
returns-in-Ok-clause-map g c =
    let r = run_of g.D.Desk.shows g.D.Desk.held g.D.Desk.wants c.args.desk.now c.read.new.desk in
    let o = opening Map c.args.word.now in
    let whole = subst (λ (bytes : List ℕ). IsWhole r o bytes) (sym c.deref.ensures.value) c.in-Ok.ensures.whole in
    read_of (λ (names : NameMap). names) read_map o c.deref.result.now r c.map_of.result whole c.map_of.ensures.map

pub returns-in-Ok-clause-none : goal.returns-in-Ok-clause-none
returns-in-Ok-clause-none g c =
    let r = run_of g.D.Desk.shows g.D.Desk.held g.D.Desk.wants c.args.desk.now c.read.new.desk in
    let o = opening Map c.args.word.now in
    let whole = subst (λ (bytes : List ℕ). IsWhole r o bytes) (sym c.deref.ensures.value) c.in-Ok.ensures.whole in
    not_read_of kinds.Map fault_text read_map o c.deref.result.now r c.map_of.result whole c.map_of.ensures.refused

pub returns-in-Err-clause-none : goal.returns-in-Err-clause-none
returns-in-Err-clause-none g c =
    let r = run_of g.D.Desk.shows g.D.Desk.held g.D.Desk.wants c.args.desk.now c.read.new.desk in
    stopped_of kinds.Map fault_text read_map (opening Map c.args.word.now) r c.in-Err.stop c.in-Err.ensures.unread
