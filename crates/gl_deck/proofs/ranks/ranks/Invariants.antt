use Rattle.gl_deck.proofs.NumberLaws.{IsNumbering}
use Rattle.gl_deck.proofs.ranks.ranks.Given as goal

abbrev pub invariant-loop-place : goal.invariant-loop-place
invariant-loop-place l = IsNumbering l.subs l.calls.items l.ready.items l.ranks.items l.next

abbrev pub decreases-loop-place : goal.decreases-loop-place
decreases-loop-place l = l.next
