-- What is known of every deck that was read, and of its flat deck: cards are such as are read, and sizes are at most the numbers of bytes. This project's own.
use Rattle.std.specs.Prelude.{◌≡◌, ℕ, ◌+◌, ◌≤◌, false, length, map, sum_by, Result, Ok, Err, codes, All}
use Rattle.gl_text.specs.LogicalLines.{FILE, Fault, Line}
use Rattle.gl_text.specs.Cards.{IsDeviceCard}
use Rattle.gl_text.specs.Decks.{Body, dev_at, call_at, Sub, Deck, is_in, has_twice}
use Rattle.gl_text.specs.Flattening.{Flat, flat_card}
use Rattle.gl_text.specs.CellCards.{devices_in, places_count}
use Rattle.gl_printed.specs.ReadDecks.{IsReadDeck}

-- ---- sizes

-- of a device or X card: its nodes, and one
abbrev pub body_size : Body → ℕ
body_size (dev_at line d) = length d.nodes + 1
body_size (call_at line c) = length c.nodes + 1

-- of a subcircuit: its ports, one, and its cards
abbrev pub sub_size : Sub → ℕ
sub_size s = length s.head.ports + 1 + sum_by body_size s.cards

-- of a deck: one for each global, model and passed card, and its subcircuits and cards
abbrev pub deck_size : Deck → ℕ
deck_size d = length d.globals + length d.models + sum_by sub_size d.subs + sum_by body_size d.top + length d.passed

-- of a logical line: its bytes, and none where it is refused
abbrev pub line_size : Result Line Fault → ℕ
line_size (Ok l) = length l.text
line_size (Err f) = 0

-- ---- what is known

-- each device has the nodes that its letter demands, the ports differ, and none is `0`
pub record IsKnownSub (s : Sub) : Type 0 where
  pub cards : All IsDeviceCard (devices_in s.cards)
  pub ports_differ : has_twice s.head.ports ≡ false
  pub no_zero : is_in (codes "0") s.head.ports ≡ false

-- a deck as it is read: each device has the nodes that its letter demands, each subcircuit is so, and all together is no larger than a size
pub record IsKnownDeck (size : ℕ) (d : Deck) : Type 0 where
  pub read : IsReadDeck d
  pub top_cards : All IsDeviceCard (devices_in d.top)
  pub subs_known : All IsKnownSub d.subs
  pub small : deck_size d ≤ size

-- each flat device has the nodes that its letter demands, and the places of all are no more than the bytes of a file
pub record IsKnownFlat (f : Flat) : Type 0 where
  pub cards : All IsDeviceCard (map flat_card f.devices)
  pub places : places_count (map flat_card f.devices) ≤ FILE
