use Rattle.std.proofs.Common.{◌≡◌, ◌++◌, length, map}
use Rattle.gl_cells.specs.Outlines.{level_by}
use Rattle.gl_cells.proofs.levels.deeper_levels.Given as goal

abbrev pub invariant-loop-rest : goal.invariant-loop-rest
invariant-loop-rest l = l.deeper.items ++ map (level_by l.levels) l.rest ≡ map (level_by l.levels) l.cells

abbrev pub decreases-loop-rest : goal.decreases-loop-rest
decreases-loop-rest l = length l.rest
