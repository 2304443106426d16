use Rattle.std.proofs.Common.{◌≡◌, ◌++◌, drop}
use Rattle.std.specs.Prelude.{filter_map}
use Rattle.std.specs.List.{enumerate_from}
use Rattle.gl_history.specs.Searching as searching
use Rattle.gl_history.proofs.searching.level_numbers.Given as goal

abbrev pub invariant-loop-number : goal.invariant-loop-number
invariant-loop-number l = l.numbers.items ++ filter_map (searching.number_at l.level) (drop l.number (enumerate_from 0 l.cells)) ≡ searching.numbers_at l.level l.cells
