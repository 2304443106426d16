use Rattle.std.proofs.Common.{◌≡◌, ◌+◌, ◌≤◌, min, length}
use Rattle.std.specs.Prelude.{sum_by}
use Rattle.gl_deck.specs.Bodies.{bodies_value}
use Rattle.gl_size.specs.Counts.{most_of, own_of}
use Rattle.gl_size.specs.Tallies.{own_count}
use Rattle.gl_size.proofs.counted.Counted.own_total.Given as goal

abbrev pub invariant-loop-rest : goal.invariant-loop-rest
invariant-loop-rest l = record {
  total : min (l.total + sum_by (own_of l.self) (bodies_value l.rest)) (most_of l.self) ≡ own_count l.self (bodies_value l.cards);
  within : l.total ≤ most_of l.self;
}

abbrev pub decreases-loop-rest : goal.decreases-loop-rest
decreases-loop-rest l = length l.rest
