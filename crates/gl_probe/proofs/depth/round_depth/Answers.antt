use Rattle.std.proofs.Common.{subst}
use Rattle.std.proofs.lemmas.List.{take_all}
use Rattle.gl_probe.specs.Shown.{IsDeepForAll}
use Rattle.gl_probe.proofs.KeyLaws.{one_more_deep}
use Rattle.gl_probe.proofs.depth.round_depth.Goals as goal

pub loop-cell-preserved : goal.loop-cell-preserved
loop-cell-preserved c =
    let deepest = c.deeper-depth.ensures in
    record {
      shallow = deepest.least 16 c.loop-cell.invariant.shallow c.in_ok-own.ensures.shallow;
      deep = one_more_deep c.args.level c.loop-cell.cell-index c.loop-cell.depth c.in_ok-own.own c.deeper-depth.result c.args.cells.now c.cell-item.result c.loop-cell-test.true c.cell-item.is deepest.first deepest.second c.loop-cell.invariant.deep c.in_ok-own.ensures.deep;
    }

pub returns-clause-deep : goal.returns-clause-deep
returns-clause-deep c =
    subst (IsDeepForAll c.args.level c.loop-cell.depth) (take_all c.loop-cell.cell-index c.args.cells.now c.loop-cell-test.false) c.loop-cell.invariant.deep
