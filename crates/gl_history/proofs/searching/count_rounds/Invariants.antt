use Rattle.std.proofs.Common.{◌≡◌, ◌≤◌, ◌^◌, drop}
use Rattle.std.specs.Prelude.{max}
use Rattle.gl_history.specs.Searching as searching
use Rattle.gl_history.proofs.searching.count_rounds.Given as goal

abbrev pub invariant-loop-cell : goal.invariant-loop-cell
invariant-loop-cell l = record { rounds : max l.rounds (searching.rounds_of (drop l.cell-index l.cells)) ≡ searching.rounds_of l.cells; most : l.rounds ≤ 2 ^ 32 }
