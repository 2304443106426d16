use Rattle.std.proofs.Common.{◌≡◌, ◌++◌, drop, map}
use Rattle.gl_history.specs.Searching as searching
use Rattle.gl_history.proofs.searching.level_patterns.Given as goal

abbrev pub invariant-loop-cell : goal.invariant-loop-cell
invariant-loop-cell l = map (λ p. p.now) l.patterns.items ++ searching.patterns_at l.level (drop l.cell-index l.cells) ≡ searching.patterns_at l.level l.cells
