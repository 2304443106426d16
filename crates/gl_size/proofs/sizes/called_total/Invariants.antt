use Rattle.std.proofs.Common.{◌≡◌, ◌+◌, ◌≤◌, min, length}
use Rattle.std.specs.Prelude.{slice_index, sum_by}
use Rattle.gl_text.specs.Decks.{callees}
use Rattle.gl_deck.specs.Bodies.{bodies_value}
use Rattle.gl_deck.specs.Places.{places_of}
use Rattle.gl_size.proofs.sizes.called_total.Given as goal

abbrev pub invariant-loop-rest : goal.invariant-loop-rest
invariant-loop-rest l = record {
  total : min (l.total + sum_by (slice_index l.counts) (places_of l.subs (callees (bodies_value l.rest)))) l.most
      ≡ min (sum_by (slice_index l.counts) (places_of l.subs (callees (bodies_value l.cards)))) l.most;
  within : l.total ≤ l.most;
}

abbrev pub decreases-loop-rest : goal.decreases-loop-rest
decreases-loop-rest l = length l.rest
