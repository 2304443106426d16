-- What is asked of a flat deck and a library of which circuit and cells are made. This project's own.
use Rattle.std.specs.Prelude.{◌≡◌, ◌≤◌, List, [], length, map, flat_map, sum_by, zip, All}
use Rattle.std.specs.List.{AllByRecursion}
use Rattle.gl_text.specs.LogicalLines.{FILE}
use Rattle.gl_text.specs.Cards.{Device as Card}
use Rattle.gl_text.specs.Decks.{Sub}
use Rattle.gl_text.specs.Flattening.{Flat}
use Rattle.gl_text.specs.CellCards.{devices_in}
use Rattle.gl_printed.specs.ReadDecks.{AllDiffer, FindsSub}
use Rattle.gl_known.specs.Known.{sub_size}
use Rattle.gl_match.specs.Graph.{Device}
use Rattle.gl_base.specs.TypeNames.{TypeName}
use Rattle.gl_base.specs.BaseCircuit.{type_number}
use Rattle.gl_base.specs.Patterns.{IsSound}
use Rattle.gl_base.specs.Libraries.{PORTS, Library}
use Rattle.gl_base.specs.Rounds.{source_of, searched}
use Rattle.gl_cells.specs.KnownLibraries.{IsSearchedCell}
use Rattle.gl_flat.specs.Kept.{KeptDevice, kept_card}

-- ---- a library

-- the devices of each cell of a library, as cards
abbrev pub cells_in : Library → List (List Card)
cells_in library = map (λ (s : Sub). devices_in s.cards) library.deck.subs

-- the devices of all cells
abbrev pub cards_of_cells : List Sub → List Card
cards_of_cells cells = flat_map (λ (s : Sub). devices_in s.cards) cells

-- the cells that are searched, of all levels
abbrev pub all_searched : Library → List Sub
all_searched library = searched (zip library.deck.subs library.cells)

-- a cell has cards, each port stands on one, and each X card calls a cell that is there, with as many ports as the card has nodes
pub record IsWhole (cells : List Sub) (cell : Sub) : Type 0 where
  pub searched : IsSearchedCell cell
  pub calls : AllByRecursion (FindsSub cells) cell.cards

-- each cell has a name of its own and few ports, and all together are no larger than a file; something is told of each; and those that are searched, at whatever level, are whole
pub record HasWholeCells (library : Library) : Type 0 where
  pub names_differ : AllDiffer (map (λ (s : Sub). s.head.name) library.deck.subs)
  pub ports : All (λ (s : Sub). length s.head.ports ≤ PORTS) library.deck.subs
  pub small : sum_by sub_size library.deck.subs ≤ FILE
  pub as_many : length library.cells ≡ length library.deck.subs
  pub whole : All (IsWhole library.deck.subs) (all_searched library)

-- circuit and cells are made of them: the source is sound, and each cell that is searched is whole
pub record AreSound (f : Flat) (library : Library) : Type 0 where
  pub source : IsSound (source_of f library)
  pub cells : HasWholeCells library

-- ---- a flat device as a device

-- the type of a flat device: its nets do not matter
abbrev pub type_of_flat : (Card → TypeName) → KeptDevice → TypeName
type_of_flat type d = type (kept_card [] d)

-- a flat device as a device: the number of its type, and its nets as they are
abbrev pub device_of_flat : (Card → TypeName) → List TypeName → KeptDevice → Device
device_of_flat type types d = record { kind = type_number types (type_of_flat type d); nets = d.nets }
