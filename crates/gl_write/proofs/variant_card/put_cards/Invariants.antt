use Rattle.std.proofs.Common.{◌≡◌, ◌++◌, map}
use Rattle.std.specs.Prelude.{flat_map, zip}
use Rattle.gl_text.specs.Decks.{body_line}
use Rattle.gl_base.specs.BaseCircuit.{Source}
use Rattle.gl_deck.specs.Bodies.{bodies_value}
use Rattle.gl_lifting.specs.LiftedDecks.{variant_card}
use Rattle.gl_write.proofs.variant_card.put_cards.Given as goal

abbrev pub invariant-loop-card : goal.invariant-loop-card
invariant-loop-card l = (s : Source) → l.out.items ++ flat_map body_line (map (variant_card s l.names) (zip (bodies_value l.card-iterator.a.rest.now) l.card-iterator.b.rest.now))
    ≡ l.fn.out.items ++ flat_map body_line (map (variant_card s l.names) (zip (bodies_value l.cards) l.fn.carried))
