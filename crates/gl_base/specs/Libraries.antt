-- A library of cells: the level of a cell, which cells are skipped, and what refuses a library. This project's own.
use Rattle.gl_fault.specs.Refusals.{first_some, when, or_else}
use Rattle.std.specs.Prelude.{ℕ, zero, suc, ◌+◌, max, not, nat_lt, Bool, false, List, [], ◌∷◌, length, map, flat_map, find, Option, Some, None, option_map, is_some, Result, Ok, Err, slice_get}
use Rattle.gl_text.specs.LogicalLines.{Fault, name_clash}
use Rattle.gl_text.specs.Decks.{Body, dev_at, call_at, Sub, Deck, is_in, find_sub, callees, read_deck}
use Rattle.gl_text.specs.Flattening.{DEPTH, clash_in, count, one, flat_devices, line_of_body, top_place}

-- ---- levels

-- the greatest of numbers, or 0
abbrev pub greatest : List ℕ → ℕ
greatest [] = 0
greatest (n ∷ ns) = max n (greatest ns)

-- one more than the level of what is called
abbrev pub above : (Sub → ℕ) → Option Sub → ℕ
above level None = 0
above level (Some called) = suc (level called)

-- the level of a cell: 0 without X cards, else one more than the greatest level that it calls; through at most so many calls
abbrev pub level_through : List Sub → ℕ → Sub → ℕ
level_through subs zero cell = 0
level_through subs (suc calls) cell = greatest (map (λ name. above (level_through subs calls) (find_sub subs name)) (callees cell.cards))

-- as many calls are enough as there are cells
abbrev pub level_of : List Sub → Sub → ℕ
level_of subs cell = level_through subs (length subs) cell

-- ---- skipped cells

-- why a cell is skipped: it has no cards; a port stands on no card; it calls a skipped cell
pub data Skip : Type 0 where
  empty : Skip
  loose : List ℕ → Skip
  uses : List ℕ → Skip

-- the nets on a card
abbrev pub nodes_of : Body → List (List ℕ)
nodes_of (dev_at line d) = d.nodes
nodes_of (call_at line c) = c.nodes

-- the first port that stands on no card
abbrev pub loose_port : Sub → Option (List ℕ)
loose_port cell = find (λ port. not (is_in port (flat_map nodes_of cell.cards))) cell.head.ports

-- why a cell is skipped by itself: it has no cards, else a port stands on none
abbrev pub empty_else : List Body → Option Skip → Option Skip
empty_else [] skip = Some empty
empty_else (card ∷ cards) skip = skip

-- why a cell is skipped by itself, if it is
abbrev pub own_skip : Sub → Option Skip
own_skip cell = empty_else cell.cards (option_map loose (loose_port cell))

-- a test of the cell that is called, if there is one
abbrev pub is_called : (Sub → Bool) → Option Sub → Bool
is_called test None = false
is_called test (Some called) = test called

-- the first cell among those skipped that cards call
abbrev pub skipped_callee : (Sub → Bool) → List Sub → List Body → Option (List ℕ)
skipped_callee is_skipped subs cards = find (λ name. is_called is_skipped (find_sub subs name)) (callees cards)

-- a reason of its own, else the skipped cell that is called
abbrev pub uses_else : Option Skip → Option (List ℕ) → Option Skip
uses_else (Some skip) called = Some skip
uses_else None called = option_map uses called

-- why a cell is skipped, if it is: by itself, else since it calls one of the skipped cells
abbrev pub skip_by : (Sub → Bool) → List Sub → Sub → Option Skip
skip_by is_skipped subs cell = uses_else (own_skip cell) (skipped_callee is_skipped subs cell.cards)

-- whether a cell is skipped; through fewer than so many calls
abbrev pub is_skipped_through : List Sub → ℕ → Sub → Bool
is_skipped_through subs zero cell = false
is_skipped_through subs (suc calls) cell = is_some (skip_by (is_skipped_through subs calls) subs cell)

-- as many calls are enough as there are cells
abbrev pub skip_of : List Sub → Sub → Option Skip
skip_of subs cell = skip_by (is_skipped_through subs (length subs)) subs cell

-- ---- what refuses a library

-- how many cells a library may have
abbrev pub CELLS : ℕ
CELLS = 256

-- how many cards a cell may have
abbrev pub CELL_CARDS : ℕ
CELL_CARDS = 256

-- how many ports a cell may have
abbrev pub PORTS : ℕ
PORTS = 64

-- the greatest level
abbrev pub LEVEL : ℕ
LEVEL = 15

-- how many cards may be below a cell
abbrev pub CELL_EXPANDED : ℕ
CELL_EXPANDED = 65536

-- which limit is passed: of cells, of the cards, ports or level of a cell, of the cards below a cell
pub data Limit : Type 0 where
  cells devices ports level flat : Limit

-- a refusal of reading; the line of a card at the top; a cell past a limit, and the number that is past it; a cell in which a name clashes
pub data Cause : Type 0 where
  refused : Fault → Cause
  top_card : ℕ → Cause
  cell_limit : List ℕ → Limit → ℕ → Cause
  cell_clash : List ℕ → List ℕ → Cause

-- the first device or X card at the top
abbrev pub top_cause : List Body → Option Cause
top_cause [] = None
top_cause (card ∷ cards) = Some (top_card (line_of_body card))

-- the cell behind as many as a library may have
abbrev pub cells_cause : List Sub → Option Cause
cells_cause subs = option_map (λ (cell : Sub). cell_limit cell.head.name cells (CELLS + 1)) (slice_get subs CELLS)

-- a cell with too many cards
abbrev pub devices_cause : Sub → Option Cause
devices_cause cell = when (nat_lt CELL_CARDS (length cell.cards)) (cell_limit cell.head.name devices (length cell.cards))

-- a cell with too many ports
abbrev pub ports_cause : Sub → Option Cause
ports_cause cell = when (nat_lt PORTS (length cell.head.ports)) (cell_limit cell.head.name ports (length cell.head.ports))

-- a cell of too great a level
abbrev pub level_cause : List ℕ → ℕ → Option Cause
level_cause name number = when (nat_lt LEVEL number) (cell_limit name level number)

-- the cards below a cell, itself not counted
abbrev pub flat_cause : List Sub → Sub → Option Cause
flat_cause subs cell = when (nat_lt CELL_EXPANDED (count one subs cell.cards)) (cell_limit cell.head.name flat (CELL_EXPANDED + 1))

-- the first limit that a cell breaks
abbrev pub limit_cause : List Sub → Sub → Option Cause
limit_cause subs cell = first_some (devices_cause cell ∷ ports_cause cell ∷ level_cause cell.head.name (level_of subs cell) ∷ flat_cause subs cell ∷ [])

-- the first name that two rails or ports, nets or devices of a cell have, where it is flattened as a top
abbrev pub clash_of_cell : List (List ℕ) → List Sub → Sub → Option Fault
clash_of_cell rails subs cell = clash_in rails cell.head.ports (flat_devices rails subs DEPTH top_place cell.cards)

-- a clash of flat names, said of a cell
abbrev pub clash_of : List ℕ → Fault → Cause
clash_of cell (name_clash name) = cell_clash cell name
clash_of cell fault = refused fault

-- the clash of a cell
abbrev pub clash_cause : List (List ℕ) → List Sub → Sub → Option Cause
clash_cause rails subs cell = option_map (clash_of cell.head.name) (clash_of_cell rails subs cell)

-- the first refusal of a library whose deck is read
abbrev pub library_cause : Deck → Option Cause
library_cause deck = first_some (top_cause deck.top ∷ cells_cause deck.subs
    ∷ first_some (map (limit_cause deck.subs) deck.subs)
    ∷ first_some (map (clash_cause deck.globals deck.subs) deck.subs) ∷ [])

-- ---- a library

-- what is told of a cell: its level, and why it is skipped, if it is
pub record Cell : Type 0 where
  pub level : ℕ
  pub skip : Option Skip

-- a library: its deck, and what is told of each subcircuit, in order
pub record Library : Type 0 where
  pub deck : Deck
  pub cells : List Cell

-- what is told of a subcircuit
abbrev pub cell_of : List Sub → Sub → Cell
cell_of subs cell = record { level = level_of subs cell; skip = skip_of subs cell }

-- the library of a deck
abbrev pub library_of : Deck → Library
library_of deck = record { deck = deck; cells = map (cell_of deck.subs) deck.subs }

-- the library of a deck that was read, or the first refusal
abbrev pub checked : Result Deck Fault → Result Library Cause
checked (Ok deck) = or_else (library_cause deck) (library_of deck)
checked (Err fault) = Err (refused fault)

-- the library of a file without a title, or the first refusal
abbrev pub read_library : List ℕ → Result Library Cause
read_library bytes = checked (read_deck false bytes)
