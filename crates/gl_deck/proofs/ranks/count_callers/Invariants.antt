use Rattle.std.proofs.Common.{◌≡◌, ◌+◌, ◌*◌, ◌<◌, ◌^◌, ℕ, length, get_or}
use Rattle.gl_deck.specs.CallCounts.{calls_from}
use Rattle.gl_deck.proofs.ranks.count_callers.Given as goal

abbrev pub invariant-loop-rest : goal.invariant-loop-rest
invariant-loop-rest l = record {
  sized : length l.calls ≡ length l.subs;
  room : (p : ℕ) → get_or l.calls p 0 + length l.rest * 2 ^ 64 < 2 ^ 128;
  counted : (p : ℕ) → get_or l.calls p 0 + calls_from l.subs l.rest p ≡ get_or l.fn.calls p 0 + calls_from l.subs l.callers p;
}

abbrev pub decreases-loop-rest : goal.decreases-loop-rest
decreases-loop-rest l = length l.rest
