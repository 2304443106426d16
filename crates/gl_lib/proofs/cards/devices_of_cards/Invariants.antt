use Rattle.std.proofs.Common.{◌≡◌, take, map}
use Rattle.gl_deck.specs.Bodies.{bodies_value}
use Rattle.gl_lifting.specs.Runs.{card_device}
use Rattle.gl_lib.specs.Tables.{run_in}
use Rattle.gl_lib.proofs.cards.devices_of_cards.Given as goal

abbrev pub invariant-loop-card : goal.invariant-loop-card
invariant-loop-card l = l.devices.items ≡ map (card_device (run_in l.parts) l.nets) (bodies_value (take l.card-index l.cards))
