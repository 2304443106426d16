use Rattle.std.proofs.Common.{◌≡◌, ◌+◌, ◌-◌, ℕ, length}
use Rattle.gl_named.specs.Firsts.{at_number}
use Rattle.gl_named.proofs.firsts.grow.Given as goal

abbrev pub invariant-loop-table : goal.invariant-loop-table
invariant-loop-table g l = (k : ℕ) → at_number l.table.items k ≡ at_number l.fn.table.items k

abbrev pub decreases-loop-table : goal.decreases-loop-table
decreases-loop-table g l = l.number + 1 - length l.table.items
