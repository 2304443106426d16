use Rattle.std.proofs.Common.{◌≡◌, ◌++◌, take}
use Rattle.std.specs.Prelude.{flat_map}
use Rattle.gl_text.specs.Decks.{body_line}
use Rattle.gl_deck.specs.Bodies.{bodies_value}
use Rattle.gl_deck.proofs.print.put_bodies.Given as goal

abbrev pub invariant-loop-card : goal.invariant-loop-card
invariant-loop-card l = l.out.items ≡ l.fn.out.items ++ flat_map body_line (bodies_value (take l.card-index l.cards))
