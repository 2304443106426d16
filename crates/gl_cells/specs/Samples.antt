-- Cards, cells and decks of the rows, and what is said of cells.
use Rattle.std.specs.Prelude.{◌≡◌, ℕ, List, [], ◌∷◌, None, Some, codes, replicate}
use Rattle.gl_text.specs.Decks.{Body, dev_at, call_at, Sub, Deck}
use Rattle.gl_base.specs.Libraries.{Cell, Library, Skip}

-- a resistor between `a` and `0`
abbrev pub resistor : Body
resistor = dev_at 1 (record { name = codes "r1"; nodes = codes "a" ∷ codes "0" ∷ []; model = None; tail = [] })

-- X cards that call `d`, without nodes
abbrev pub callers : ℕ → List Body
callers count = replicate count (call_at 1 (record { name = codes "x1"; nodes = []; sub = codes "d" }))

-- a cell with a name, so many ports, and cards
abbrev pub cell_named : List ℕ → ℕ → List Body → Sub
cell_named name ports cards = record { line = 1; head = record { name = name; ports = replicate ports (codes "a") }; cards = cards }

-- a cell `c` of so many ports and resistors
abbrev pub cell_with : ℕ → ℕ → Sub
cell_with ports devices = cell_named (codes "c") ports (replicate devices resistor)

-- a deck of cells, and cards at the top
abbrev pub deck_with : List Sub → List Body → Deck
deck_with subs top = record { title = []; globals = []; models = []; subs = subs; top = top; passed = [] }

-- a cell that is searched, and one that is skipped
abbrev pub searched : ℕ → Cell
searched level = record { level = level; skip = None }

abbrev pub skipped : ℕ → Skip → Cell
skipped level why = record { level = level; skip = Some why }

-- this is said of a library's cells
abbrev pub HasCells : List Cell → Library → Type 0
HasCells cells l = l.cells ≡ cells
