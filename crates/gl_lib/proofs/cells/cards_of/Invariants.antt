use Rattle.std.proofs.Common.{◌≡◌, ◌++◌, drop, map}
use Rattle.gl_text.specs.CellCards.{devices_in}
use Rattle.gl_deck.specs.Bodies.{bodies_value}
use Rattle.gl_lib.proofs.cells.cards_of.Given as goal

abbrev pub invariant-loop-card : goal.invariant-loop-card
invariant-loop-card l = map (λ d. d.now) l.devices.items ++ devices_in (bodies_value (drop l.card-index l.cards)) ≡ devices_in (bodies_value l.cards)
