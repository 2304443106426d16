use Rattle.std.proofs.Common.{◌≡◌, suc, length, map}
use Rattle.std.specs.Prelude.{max, slice_index}
use Rattle.gl_base.specs.Libraries.{greatest}
use Rattle.gl_cells.proofs.levels.level_over.Given as goal

abbrev pub invariant-loop-rest : goal.invariant-loop-rest
invariant-loop-rest l = max l.level (greatest (map (λ place. suc (slice_index l.levels place)) l.rest)) ≡ greatest (map (λ place. suc (slice_index l.levels place)) l.places)

abbrev pub decreases-loop-rest : goal.decreases-loop-rest
decreases-loop-rest l = length l.rest
