use Rattle.std.proofs.Common.{◌≡◌, ℕ, take}
use Rattle.gl_deck.specs.CallCounts.{times, uncalled_at}
use Rattle.gl_deck.proofs.ranks.uncalled.Given as goal

abbrev pub invariant-loop-place : goal.invariant-loop-place
invariant-loop-place l = (p : ℕ) → times p l.places.items ≡ uncalled_at (take l.place l.calls) p
