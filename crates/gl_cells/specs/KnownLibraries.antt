-- What is known of every library that was read. This project's own.
use Rattle.std.specs.Prelude.{◌≡◌, ℕ, ◌<◌, ◌≤◌, true, false, [], List, length, map, flat_map, None, Some, codes, slice_get, All}
use Rattle.std.specs.List.{list_all}
use Rattle.gl_text.specs.LogicalLines.{FILE}
use Rattle.gl_text.specs.Cards.{IsDeviceCard}
use Rattle.gl_text.specs.Decks.{Sub, has_twice, is_in}
use Rattle.gl_text.specs.Flattening.{count, one}
use Rattle.gl_text.specs.CellCards.{devices_in}
use Rattle.gl_known.specs.Known.{IsKnownDeck}
use Rattle.gl_base.specs.Libraries.{CELLS, CELL_CARDS, PORTS, LEVEL, CELL_EXPANDED, Cell, Library, cell_of, clash_of_cell, level_of, nodes_of}

-- a cell keeps the limits
pub record IsWithinLimits (subs : List Sub) (s : Sub) : Type 0 where
  pub cards : length s.cards ≤ CELL_CARDS
  pub ports : length s.head.ports ≤ PORTS
  pub level : level_of subs s ≤ LEVEL
  pub expanded : count one subs s.cards ≤ CELL_EXPANDED

-- a cell that is searched has cards, and each port stands on one; none is `0` or stands twice
pub record IsSearchedCell (s : Sub) : Type 0 where
  pub devices : All IsDeviceCard (devices_in s.cards)
  pub some : 0 < length s.cards
  pub ports_differ : has_twice s.head.ports ≡ false
  pub no_zero : is_in (codes "0") s.head.ports ≡ false
  pub ports_stand : list_all (λ port. is_in port (flat_map nodes_of s.cards)) s.head.ports ≡ true

-- each cell that is not skipped is so
abbrev pub AreSearched : Library → Type 0
AreSearched l = (place : ℕ) (s : Sub) (c : Cell) → slice_get l.deck.subs place ≡ Some s → slice_get l.cells place ≡ Some c → c.skip ≡ None → IsSearchedCell s

-- its deck is one as it is read, of cells alone; they keep the limits, and no name clashes in one
pub record IsKnownLibrary (l : Library) : Type 0 where
  pub is_known : IsKnownDeck FILE l.deck
  pub no_top : l.deck.top ≡ []
  pub cells_few : length l.deck.subs ≤ CELLS
  pub cells : l.cells ≡ map (cell_of l.deck.subs) l.deck.subs
  pub limits : All (IsWithinLimits l.deck.subs) l.deck.subs
  pub no_clash : All (λ (s : Sub). clash_of_cell l.deck.globals l.deck.subs s ≡ None) l.deck.subs
  pub searched : AreSearched l
