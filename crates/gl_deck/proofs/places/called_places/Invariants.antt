use Rattle.std.proofs.Common.{◌≡◌, ◌++◌, length}
use Rattle.gl_text.specs.Decks.{callees}
use Rattle.gl_deck.specs.Bodies.{bodies_value}
use Rattle.gl_deck.specs.Places.{places_of}
use Rattle.gl_deck.proofs.places.called_places.Given as goal

abbrev pub invariant-loop-rest : goal.invariant-loop-rest
invariant-loop-rest l = l.places.items ++ places_of l.subs (callees (bodies_value l.rest)) ≡ places_of l.subs (callees (bodies_value l.cards))

abbrev pub decreases-loop-rest : goal.decreases-loop-rest
decreases-loop-rest l = length l.rest
