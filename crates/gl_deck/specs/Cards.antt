-- What is known of cards that were read, and of subcircuits of them.
use Rattle.std.specs.Prelude.{◌<◌, ◌^◌, List, Option, Some, None, length, ⊤}
use Rattle.gl_text.specs.Cards.{Card, call, subckt}
use Rattle.gl_text.specs.Decks.{Sub}
use Rattle.gl_deck.specs.Calls.{PortsFit}

-- an X card's nodes and a head's ports can be counted
abbrev pub IsCountable : Card → Type 0
IsCountable (call c) = length c.nodes < 2 ^ 32
IsCountable (subckt h) = length h.ports < 2 ^ 32
IsCountable _ = ⊤

-- the ports of the open subcircuit can be counted
abbrev pub CurrentFits : Option Sub → Type 0
CurrentFits None = ⊤
CurrentFits (Some s) = length s.head.ports < 2 ^ 32

-- the ports of these subcircuits, and of one that is open, can be counted
pub record AreSubs (subs : List Sub) (current : Option Sub) : Type 0 where
  pub fit : PortsFit subs
  pub current_fits : CurrentFits current
