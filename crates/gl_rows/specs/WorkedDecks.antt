-- Decks of worked rows.
use Rattle.std.specs.Prelude.{ℕ, List, [], ◌∷◌, ◌++◌, None, codes}
use Rattle.gl_text.specs.Decks.{Deck, dev_at}

-- one resistor, read from a line
abbrev pub resistor_deck : ℕ → Deck
resistor_deck line = record {
  title = [];
  globals = [];
  models = [];
  subs = [];
  passed = [];
  top = dev_at line (record { name = codes "r1"; nodes = codes "a" ∷ codes "b" ∷ []; model = None; tail = codes "=5" }) ∷ [];
}

-- X cards that lead down twice, a continued line with a comment between, a passed card, cards in any order
abbrev pub nested_source : List ℕ
nested_source = codes "Two inverters\r\n"
    ++ codes ".subckt pair a y\n"
    ++ codes "x1 a m inv\nX2 m,y (INV)\n"
    ++ codes ".ends\n"
    ++ codes ".options  noacct \n"
    ++ codes ".subckt inv in out\n"
    ++ codes "mp out in vdd vdd pch\n* wide\n+ W=2u\n"
    ++ codes "mn out in 0 0 nch w=1u\n"
    ++ codes ".ends inv\n"
    ++ codes ".model nch nmos\n.global vdd 0 VDD\n"
    ++ codes "x1 p q pair\n"

-- as it is printed
abbrev pub nested_text : List ℕ
nested_text = codes "Two inverters\n.global vdd\n.model nch nmos\n"
    ++ codes ".subckt pair a y\nx1 a m inv\nx2 m y inv\n.ends pair\n"
    ++ codes ".subckt inv in out\n"
    ++ codes "mp out in vdd vdd pch W=2u\n"
    ++ codes "mn out in 0 0 nch w=1u\n"
    ++ codes ".ends inv\n"
    ++ codes "x1 p q pair\n.options  noacct\n.end\n"

-- and flat
abbrev pub nested_flat : List ℕ
nested_flat = codes "Two inverters\n.global vdd\n.model nch nmos\n"
    ++ codes "m.x1.x1.mp x1.m p vdd vdd pch W=2u\n"
    ++ codes "m.x1.x1.mn x1.m p 0 0 nch w=1u\n"
    ++ codes "m.x1.x2.mp q x1.m vdd vdd pch W=2u\n"
    ++ codes "m.x1.x2.mn q x1.m 0 0 nch w=1u\n"
    ++ codes ".options  noacct\n.end\n"

-- one subcircuit that is to be the top, and what it calls
abbrev pub top_source : List ℕ
top_source = codes "top\n"
    ++ codes ".subckt s a\nx1 a u\n.ends\n"
    ++ codes ".subckt u b\nr1 b n 1k\n.ends\n"

-- and flat, with that top
abbrev pub top_flat : List ℕ
top_flat = codes "top\n.subckt s a\n"
    ++ codes "r.x1.r1 a x1.n 1k\n"
    ++ codes ".ends s\n.end\n"
