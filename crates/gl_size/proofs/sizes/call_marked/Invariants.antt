use Rattle.std.proofs.Common.{◌≡◌, false, length}
use Rattle.std.specs.Prelude.{slice_index_or}
use Rattle.std.specs.List.{list_any}
use Rattle.gl_text.specs.Decks.{callees}
use Rattle.gl_deck.specs.Bodies.{bodies_value}
use Rattle.gl_deck.specs.Places.{places_of}
use Rattle.gl_size.proofs.sizes.call_marked.Given as goal

abbrev pub invariant-loop-rest : goal.invariant-loop-rest
invariant-loop-rest l =
    list_any (λ place. slice_index_or l.marks place false) (places_of l.subs (callees (bodies_value l.rest)))
    ≡ list_any (λ place. slice_index_or l.marks place false) (places_of l.subs (callees (bodies_value l.cards)))

abbrev pub decreases-loop-rest : goal.decreases-loop-rest
decreases-loop-rest l = length l.rest
