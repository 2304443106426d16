use Rattle.std.proofs.Common.{◌≡◌, ◌∙◌, ◌+◌, suc, sym, ap, subst, arith}
use Rattle.std.specs.Prelude.{All}
use Rattle.gl_history.specs.Plain.{Lifted}
use Rattle.gl_graph.specs.FitCells.{IsForCircuit}
use Rattle.gl_history.specs.Searching.{rounds_of}
use Rattle.gl_history.specs.Reached.{Reached}
use Rattle.gl_history.proofs.ReachedLaws.{pinned_kept, cells_kept, origins_kept, start_long}
use Rattle.gl_history.proofs.HistoryLaws.{history_shown}
use Rattle.gl_history.proofs.lift.Lift.run.Goals as goal

pub loop-level-init : goal.loop-level-init
loop-level-init c =
    let start = c.in_ok-lifted.ensures.start in
    record {
      reached = start;
      pinned = ap (λ (l : Lifted). l.last.pinned) start ∙ c.requires.pinned;
      cells = subst (λ (l : Lifted). All (IsForCircuit l.last) c.args.cells.now) (sym start) c.requires.cells;
      origins = start_long c.args.base c.in_ok-lifted.lifted start;
    }

pub loop-level-preserved : goal.loop-level-preserved
loop-level-preserved c =
    let cells = c.args.cells.now in
    let level = c.loop-level.level in
    let before = c.loop-level.lifted in
    let after = c.in_ok-lifted-2.lifted in
    let step = c.in_ok-lifted-2.ensures.step in
    let now = c.loop-level.invariant in
    let next : suc level ≡ level + 1 = omega arith in
    record {
      reached = subst (λ n. Reached c.args.base cells n after) next (before, now.reached, step);
      pinned = pinned_kept cells level before after step ∙ now.pinned;
      cells = cells_kept cells level before after step now.cells;
      origins = origins_kept cells level before after step;
    }

pub returns-clause-reached : goal.returns-clause-reached
returns-clause-reached c =
    let all : c.loop-level.level ≡ rounds_of c.args.cells.now = omega (arith, c.count_rounds-level-end.ensures.rounds) in
    subst (λ n. Reached c.args.base c.args.cells.now n c.loop-level.lifted) all c.loop-level.invariant.reached

pub returns-clause-history : goal.returns-clause-history
returns-clause-history c = λ run first are.
    let all : c.loop-level.level ≡ rounds_of c.args.cells.now = omega (arith, c.count_rounds-level-end.ensures.rounds) in
    history_shown run c.args.cells.now c.args.base c.loop-level.lifted first are (subst (λ n. Reached c.args.base c.args.cells.now n c.loop-level.lifted) all c.loop-level.invariant.reached)
