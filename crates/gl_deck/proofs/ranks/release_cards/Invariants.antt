use Rattle.std.proofs.Common.{◌≡◌, ◌+◌, ◌≤◌, ℕ, length, get_or}
use Rattle.gl_deck.specs.Bodies.{bodies_value}
use Rattle.gl_deck.specs.CallCounts.{calls_on, times, uncalled_at}
use Rattle.gl_deck.proofs.ranks.release_cards.Given as goal

abbrev pub invariant-loop-rest : goal.invariant-loop-rest
invariant-loop-rest l = record {
  sized : length l.calls ≡ length l.subs;
  enough : (p : ℕ) → calls_on l.subs (bodies_value l.rest) p ≤ get_or l.calls p 0;
  fewer : (p : ℕ) → get_or l.fn.calls p 0 + calls_on l.subs (bodies_value l.rest) p ≡ get_or l.calls p 0 + calls_on l.subs (bodies_value l.cards) p;
  freed : (p : ℕ) → times p l.ready.items + uncalled_at l.fn.calls p ≡ times p l.fn.ready.items + uncalled_at l.calls p;
}

abbrev pub decreases-loop-rest : goal.decreases-loop-rest
decreases-loop-rest l = length l.rest
