-- Cells whose lines are computed.
use Rattle.std.specs.Prelude.{ℕ, List, [], ◌∷◌, None, Some, map, codes}
use Rattle.gl_text.specs.Cards.{Device as Card}
use Rattle.gl_text.specs.Decks.{Sub, dev_at}
use Rattle.gl_match.specs.declared.role.Vertex.{Vertex}
use Rattle.gl_course.specs.KeyNotes.{KeyNote}

-- a transistor on four nets
abbrev pub transistor : List ℕ → List ℕ → List ℕ → List ℕ → List ℕ → List ℕ → Card
transistor name drain gate source bulk model = record { name = name; nodes = drain ∷ gate ∷ source ∷ bulk ∷ []; model = Some model; tail = [] }

-- a cell of some cards
abbrev pub cell_of : List ℕ → List (List ℕ) → List Card → Sub
cell_of name ports cards = record { line = 1; head = record { name = name; ports = ports }; cards = map (dev_at 1) cards }

-- two inverters, one behind the other, by the net n
abbrev pub buffer_sub : Sub
buffer_sub = cell_of (codes "buf") (codes "a" ∷ codes "y" ∷ []) (
    transistor (codes "mp1") (codes "n") (codes "a") (codes "vdd") (codes "vdd") (codes "pch")
    ∷ transistor (codes "mn1") (codes "n") (codes "a") (codes "0") (codes "0") (codes "nch")
    ∷ transistor (codes "mp2") (codes "y") (codes "n") (codes "vdd") (codes "vdd") (codes "pch")
    ∷ transistor (codes "mn2") (codes "y") (codes "n") (codes "0") (codes "0") (codes "nch") ∷ [])

-- a gate of four transistors, with the inner net x
abbrev pub gate_sub : Sub
gate_sub = cell_of (codes "nand2") (codes "a" ∷ codes "b" ∷ codes "y" ∷ []) (
    transistor (codes "mp1") (codes "y") (codes "a") (codes "vdd") (codes "vdd") (codes "pch")
    ∷ transistor (codes "mp2") (codes "y") (codes "b") (codes "vdd") (codes "vdd") (codes "pch")
    ∷ transistor (codes "mn1") (codes "y") (codes "a") (codes "x") (codes "0") (codes "nch")
    ∷ transistor (codes "mn2") (codes "x") (codes "b") (codes "0") (codes "0") (codes "nch") ∷ [])

-- a note
abbrev pub note : Vertex → ℕ → ℕ → KeyNote
note vertex depth candidates = record { vertex = vertex; depth = depth; candidates = candidates }
