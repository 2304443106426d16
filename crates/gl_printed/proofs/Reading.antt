-- The last steps of reading a deck.
use Rattle.std.proofs.Common.{ℕ, List, map, Result}
use Rattle.gl_text.specs.LogicalLines.{Fault}
use Rattle.gl_fault.specs.Refusals.{first_some, or_else, ◌>>=◌}
use Rattle.gl_text.specs.Decks.{Deck, Placed, deck_by, left_open, call_fault}

-- the deck of placed cards, where no subcircuit is left open and no call is refused
unfoldable pub finish : List ℕ → List Placed → Result Deck Fault
finish title cards = or_else (left_open cards) (deck_by title cards) >>= λ deck. or_else (first_some (map (call_fault deck.subs) cards)) deck
