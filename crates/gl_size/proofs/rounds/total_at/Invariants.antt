use Rattle.std.proofs.Common.{◌≡◌, ◌+◌, ◌≤◌, min, length}
use Rattle.std.specs.Prelude.{slice_index, sum_by}
use Rattle.gl_size.proofs.rounds.total_at.Given as goal

abbrev pub invariant-loop-rest : goal.invariant-loop-rest
invariant-loop-rest l = record {
  total : min (l.total + sum_by (slice_index l.counts) l.rest) l.most ≡ min (sum_by (slice_index l.counts) l.places) l.most;
  within : l.total ≤ l.most;
}

abbrev pub decreases-loop-rest : goal.decreases-loop-rest
decreases-loop-rest l = length l.rest
