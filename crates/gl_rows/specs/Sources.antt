-- Decks and cells on which the definitions are computed.
use Rattle.std.specs.Prelude.{ℕ, List, [], ◌∷◌, map, Some, None, codes, replicate}
use Rattle.gl_text.specs.Cards.{Device as Card, Model, Head}
use Rattle.gl_text.specs.Decks.{Body, dev_at, Sub, Deck}
use Rattle.gl_match.specs.Graph.{Device}
use Rattle.gl_match.specs.Listing.{Instance}
use Rattle.gl_base.specs.Libraries.{Library, loose}
use Rattle.gl_base.specs.BaseCircuit.{Source}

-- a transistor
abbrev pub transistor : List ℕ → List ℕ → List ℕ → List ℕ → List ℕ → List ℕ → Card
transistor name drain gate source bulk model = record { name = name; nodes = drain ∷ gate ∷ source ∷ bulk ∷ []; model = Some model; tail = [] }

-- a resistor
abbrev pub resistor : List ℕ → List ℕ → List ℕ → Card
resistor name first second = record { name = name; nodes = first ∷ second ∷ []; model = None; tail = [] }

-- a model
abbrev pub model : List ℕ → List ℕ → Model
model name word = record { name = name; word = word; tail = [] }

-- the models of both transistors
abbrev pub both_models : List Model
both_models = model (codes "nch") (codes "nmos") ∷ model (codes "pch") (codes "pmos") ∷ []

-- an inverter from a to y
abbrev pub inverter_head : Head
inverter_head = record { name = codes "inv"; ports = codes "a" ∷ codes "y" ∷ [] }

-- its cards
abbrev pub inverter_cell : List Card
inverter_cell = transistor (codes "mp") (codes "y") (codes "a") (codes "vdd") (codes "vdd") (codes "pch")
    ∷ transistor (codes "mn") (codes "y") (codes "a") (codes "0") (codes "0") (codes "nch") ∷ []

-- a deck of one inverter
abbrev pub one_inverter : Source
one_inverter = record {
  rails = codes "vdd" ∷ [];
  deck_models = both_models;
  library_models = [];
  devices = transistor (codes "m1") (codes "out") (codes "in") (codes "vdd") (codes "vdd") (codes "pch")
      ∷ transistor (codes "m2") (codes "out") (codes "in") (codes "0") (codes "0") (codes "nch") ∷ [];
  cells = inverter_cell ∷ [];
  pinned = [];
}

-- a pass gate between p and q
abbrev pub pass_gate_head : Head
pass_gate_head = record { name = codes "tg"; ports = codes "p" ∷ codes "q" ∷ codes "c" ∷ codes "cb" ∷ [] }

-- its cards
abbrev pub pass_gate_cell : List Card
pass_gate_cell = transistor (codes "mn") (codes "p") (codes "c") (codes "q") (codes "0") (codes "nch")
    ∷ transistor (codes "mp") (codes "p") (codes "cb") (codes "q") (codes "vdd") (codes "pch") ∷ []

-- a deck of one pass gate
abbrev pub one_pass_gate : Source
one_pass_gate = record {
  rails = codes "vdd" ∷ [];
  deck_models = both_models;
  library_models = [];
  devices = transistor (codes "m1") (codes "u") (codes "s") (codes "v") (codes "0") (codes "nch")
      ∷ transistor (codes "m2") (codes "u") (codes "sb") (codes "v") (codes "vdd") (codes "pch") ∷ [];
  cells = pass_gate_cell ∷ [];
  pinned = [];
}

-- a cell whose port is named as a rail, with a model that the deck and the library define otherwise, and one that neither defines
abbrev pub mixed_head : Head
mixed_head = record { name = codes "r"; ports = codes "vdd" ∷ codes "p" ∷ [] }

-- its cards
abbrev pub mixed_cell : List Card
mixed_cell = transistor (codes "m1") (codes "vdd") (codes "p") (codes "w") (codes "n") (codes "nch")
    ∷ transistor (codes "m2") (codes "vdd") (codes "p") (codes "w") (codes "n") (codes "nmos")
    ∷ resistor (codes "r1") (codes "n") (codes "p") ∷ []

-- a deck of a resistor and a transistor, whose globals `w` and `vdd` stand on no device, with two pinned names
abbrev pub mixed : Source
mixed = record {
  rails = codes "w" ∷ codes "vdd" ∷ [];
  deck_models = model (codes "nch") (codes "nmos") ∷ model (codes "nch") (codes "other") ∷ [];
  library_models = model (codes "nch") (codes "pmos") ∷ model (codes "lib") (codes "njf") ∷ [];
  devices = resistor (codes "r1") (codes "b") (codes "0") ∷ transistor (codes "m1") (codes "c") (codes "b") (codes "0") (codes "0") (codes "lib") ∷ [];
  cells = mixed_cell ∷ [];
  pinned = codes "c" ∷ codes "w" ∷ codes "b" ∷ [];
}

-- ---- cells of a library

-- devices as cards of a line
abbrev pub cards_at_one : List Card → List Body
cards_at_one devices = map (λ d. dev_at 1 d) devices

-- the inverter as a cell
abbrev pub inverter_sub : Sub
inverter_sub = record { line = 1; head = inverter_head; cards = cards_at_one inverter_cell }

-- the pass gate as a cell
abbrev pub pass_gate_sub : Sub
pass_gate_sub = record { line = 1; head = pass_gate_head; cards = cards_at_one pass_gate_cell }

-- a cell without cards
abbrev pub empty_sub : Sub
empty_sub = record { line = 1; head = record { name = codes "fill"; ports = [] }; cards = [] }

-- a cell with a port on no card
abbrev pub loose_sub : Sub
loose_sub = record { line = 1; head = record { name = codes "odd"; ports = codes "a" ∷ codes "b" ∷ [] }; cards = cards_at_one (resistor (codes "r1") (codes "a") (codes "0") ∷ []) }

-- a library of these cells alone
abbrev pub cells_alone : List Sub → Deck
cells_alone subs = record { title = []; globals = []; models = []; subs = subs; top = []; passed = [] }

-- an inverter, a cell that is skipped, and one of a higher level
abbrev pub small_library : Library
small_library = record {
  deck = cells_alone (inverter_sub ∷ loose_sub ∷ pass_gate_sub ∷ []);
  cells = record { level = 0; skip = None } ∷ record { level = 0; skip = Some (loose (codes "b")) } ∷ record { level = 1; skip = None } ∷ [];
}

-- a cell with so many ports and so many cards
abbrev pub sized_cell : List ℕ → ℕ → ℕ → Sub
sized_cell name ports cards = record {
  line = 1;
  head = record { name = name; ports = replicate ports (codes "a") };
  cards = replicate cards (dev_at 2 (resistor (codes "r1") (codes "a") (codes "0")));
}

-- ---- circuits and lists

-- the devices of an inverter, in the circuit of its deck and in its pattern
abbrev pub inverter_devices : List Device
inverter_devices = record { kind = 0; nets = 0 ∷ 1 ∷ 2 ∷ 2 ∷ [] } ∷ record { kind = 1; nets = 0 ∷ 1 ∷ 3 ∷ 3 ∷ [] } ∷ []

-- the same of a pass gate
abbrev pub pass_gate_devices : List Device
pass_gate_devices = record { kind = 0; nets = 0 ∷ 1 ∷ 2 ∷ 3 ∷ [] } ∷ record { kind = 1; nets = 0 ∷ 4 ∷ 2 ∷ 5 ∷ [] } ∷ []

-- a pass gate on devices 0 and 1, both ways
abbrev pub pass_gate_twice : List Instance
pass_gate_twice = record {
  key = record { set = 0 ∷ 1 ∷ []; binding = 0 ∷ 2 ∷ 1 ∷ 4 ∷ [] };
  least = record { dev = 0; turn = 0 } ∷ record { dev = 1; turn = 0 } ∷ [];
} ∷ record {
  key = record { set = 0 ∷ 1 ∷ []; binding = 2 ∷ 0 ∷ 1 ∷ 4 ∷ [] };
  least = record { dev = 0; turn = 1 } ∷ record { dev = 1; turn = 1 } ∷ [];
} ∷ []

-- an inverter on devices 0 and 1
abbrev pub inverter_once : List Instance
inverter_once = record { key = record { set = 0 ∷ 1 ∷ []; binding = 1 ∷ 0 ∷ [] }; least = record { dev = 0; turn = 0 } ∷ record { dev = 1; turn = 0 } ∷ [] } ∷ []

-- a NAND on devices 0 to 3
abbrev pub nand_once : List Instance
nand_once = record {
  key = record { set = 0 ∷ 1 ∷ 2 ∷ 3 ∷ []; binding = 1 ∷ 3 ∷ 0 ∷ [] };
  least = record { dev = 0; turn = 0 } ∷ record { dev = 1; turn = 0 } ∷ record { dev = 2; turn = 0 } ∷ record { dev = 3; turn = 0 } ∷ [];
} ∷ []
