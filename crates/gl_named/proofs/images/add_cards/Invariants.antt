use Rattle.std.proofs.Common.{◌≡◌, ℕ}
use Rattle.std.specs.Prelude.{zip}
use Rattle.std.specs.Option.{option_or}
use Rattle.gl_deck.specs.Bodies.{bodies_value}
use Rattle.gl_lifting.specs.NameMaps.{under}
use Rattle.gl_named.specs.Firsts.{at_number}
use Rattle.gl_named.specs.Walks.{cell_pairs}
use Rattle.gl_named.proofs.images.add_cards.Given as goal

abbrev pub invariant-loop-card : goal.invariant-loop-card
invariant-loop-card l = (n : ℕ) → option_or (at_number l.images.items n) (under (cell_pairs l.nets.keys l.c (zip (bodies_value l.card-iterator.a.rest.now) l.card-iterator.b.rest.now)) n)
    ≡ option_or (at_number l.fn.images.items n) (under (cell_pairs l.nets.keys l.c (zip (bodies_value l.cards) l.spots)) n)
