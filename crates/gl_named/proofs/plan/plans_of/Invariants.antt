use Rattle.std.proofs.Common.{◌≡◌, map, take}
use Rattle.gl_named.specs.Walks.{plan_of}
use Rattle.gl_named.proofs.plan.plans_of.Given as goal

abbrev pub invariant-loop-cell : goal.invariant-loop-cell
invariant-loop-cell l = l.plans.items ≡ map (plan_of l.fn.rails) (take l.cell-index l.cells)
