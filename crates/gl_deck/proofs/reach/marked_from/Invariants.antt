use Rattle.std.proofs.Common.{[], ◌∷◌, length}
use Rattle.gl_text.specs.Decks.{steps}
use Rattle.gl_deck.proofs.MarkLaws.{left}
use Rattle.gl_deck.proofs.WalkLaws.{IsWalk}
use Rattle.gl_deck.proofs.reach.marked_from.Given as goal

abbrev pub invariant-loop-place : goal.invariant-loop-place
invariant-loop-place l = IsWalk l.subs (steps l.subs (length l.subs) (l.target ∷ [])) l.target l.walk

abbrev pub decreases-loop-place : goal.decreases-loop-place
decreases-loop-place l = left l.walk
