-- A round: cells of a library, each with its complete list against one circuit, and the choice over all lists. This project's own.
use Rattle.std.specs.Prelude.{ℕ, ◌==◌, Bool, true, false, List, map, filter, Option, Some, None, zip}
use Rattle.std.specs.List.{AllZip}
use Rattle.gl_text.specs.Cards.{Device as Card}
use Rattle.gl_text.specs.Decks.{Sub}
use Rattle.gl_text.specs.Flattening.{Flat, flat_card, top_ports}
use Rattle.gl_text.specs.CellCards.{devices_in}
use Rattle.gl_match.specs.declared.role.Pick.{Pick}
use Rattle.gl_match.specs.Graph.{Circuit, Pattern}
use Rattle.gl_match.specs.Listing.{Instance, Listed}
use Rattle.gl_match.specs.Choice.{IsChoice, sets_of}
use Rattle.gl_base.specs.Libraries.{Skip, Cell, Library}
use Rattle.gl_base.specs.BaseCircuit.{Source}
use Rattle.gl_base.specs.Patterns.{pattern_of}

-- the devices of a flat deck as cards
abbrev pub cards_of : Flat → List Card
cards_of f = map flat_card f.devices

-- what circuit and patterns of a run are made from: a flat deck, whose rails are the run's, and a library
abbrev pub source_of : Flat → Library → Source
source_of f library = record {
  rails = f.rails;
  deck_models = f.models;
  library_models = library.deck.models;
  devices = cards_of f;
  cells = map (λ (s : Sub). devices_in s.cards) library.deck.subs;
  pinned = top_ports f.top;
}

-- the cells of a level, in library order
abbrev pub cells_at : ℕ → Library → List (Sub × Cell)
cells_at level library = filter (λ c. c.1.level == level) (zip library.deck.subs library.cells)

-- a cell that is not skipped is searched
abbrev pub is_searched : Option Skip → Bool
is_searched None = true
is_searched (Some skip) = false

-- those that are searched
abbrev pub searched : List (Sub × Cell) → List Sub
searched cells = map (λ c. c.0) (filter (λ c. is_searched c.1.skip) cells)

-- the pattern of a cell of devices
abbrev pub cell_pattern : Source → Sub → Pattern
cell_pattern s cell = pattern_of s cell.head (devices_in cell.cards)

-- each list is complete against the same circuit, and the picks are the choice without overlap, with numbers from the first
pub record IsRound (c : Circuit) (first : ℕ) (patterns : List Pattern) (lists : List (List Instance)) (picks : List (List Pick)) : Type 0 where
  pub complete : AllZip (Listed c) patterns lists
  pub choice : IsChoice first (sets_of lists) picks
