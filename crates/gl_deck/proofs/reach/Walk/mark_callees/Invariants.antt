use Rattle.std.proofs.Common.{◌≡◌, length}
use Rattle.gl_text.specs.Decks.{callees}
use Rattle.gl_deck.specs.Bodies.{bodies_value}
use Rattle.gl_deck.specs.Walks.{marked_all}
use Rattle.gl_deck.proofs.reach.Walk.mark_callees.Given as goal

abbrev pub invariant-loop-rest : goal.invariant-loop-rest
invariant-loop-rest l = record {
  marked : marked_all l.subs (callees (bodies_value l.rest)) l.self ≡ marked_all l.subs (callees (bodies_value l.cards)) l.fn.self;
  sized : length l.self.marks ≡ length l.subs;
}

abbrev pub decreases-loop-rest : goal.decreases-loop-rest
decreases-loop-rest l = length l.rest
