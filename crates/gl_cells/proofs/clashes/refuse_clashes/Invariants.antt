use Rattle.std.proofs.Common.{◌≡◌, drop}
use Rattle.gl_cells.specs.Limited.{clashes_cause}
use Rattle.gl_cells.proofs.clashes.refuse_clashes.Given as goal

abbrev pub invariant-loop-cell : goal.invariant-loop-cell
invariant-loop-cell l = clashes_cause l.rails l.subs (drop l.cell-index l.subs) ≡ clashes_cause l.rails l.subs l.subs
