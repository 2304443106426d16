-- A flat deck and a library on which the definitions are computed.
use Rattle.std.specs.Prelude.{ℕ, List, [], ◌∷◌, None, Some, map, codes}
use Rattle.gl_text.specs.Cards.{Device as Card, Call, Model, Head}
use Rattle.gl_text.specs.Decks.{Body, Sub, dev_at, call_at}
use Rattle.gl_text.specs.Flattening.{Flat}
use Rattle.gl_match.specs.declared.role.Role.TheVariants.{Port, Rail}
use Rattle.gl_match.specs.Graph.{Device, Pattern}
use Rattle.gl_base.specs.Libraries.{Library, loose, uses}
use Rattle.gl_flat.specs.PlainFlats.{plain_device}

-- cards: a transistor, a resistor, a model
abbrev pub transistor : List ℕ → List ℕ → List ℕ → List ℕ → List ℕ → List ℕ → Card
transistor name drain gate source bulk model = record { name = name; nodes = drain ∷ gate ∷ source ∷ bulk ∷ []; model = Some model; tail = [] }

abbrev pub resistor : List ℕ → List ℕ → List ℕ → Card
resistor name first second = record { name = name; nodes = first ∷ second ∷ []; model = None; tail = [] }

abbrev pub model : List ℕ → List ℕ → Model
model name word = record { name = name; word = word; tail = [] }

-- devices as cards of a line
abbrev pub cards_at_one : List Card → List Body
cards_at_one devices = map (λ d. dev_at 1 d) devices

-- an inverter from a to y
abbrev pub inverter_head : Head
inverter_head = record { name = codes "inv"; ports = codes "a" ∷ codes "y" ∷ [] }

abbrev pub inverter_sub : Sub
inverter_sub = record {
  line = 1;
  head = inverter_head;
  cards = cards_at_one (transistor (codes "mp") (codes "y") (codes "a") (codes "vdd") (codes "vdd") (codes "pch")
      ∷ transistor (codes "mn") (codes "y") (codes "a") (codes "0") (codes "0") (codes "nch") ∷ []);
}

-- an inverter from `in` to `out` and a resistor; ports are `in`, the rail `vdd`, and `nc`, which stands on no device, as the rail `w` does
abbrev pub sample_deck : Flat
sample_deck = record {
  title = [];
  rails = codes "vdd" ∷ codes "w" ∷ [];
  models = model (codes "nch") (codes "nmos") ∷ [];
  top = Some (record { name = codes "top"; ports = codes "in" ∷ codes "vdd" ∷ codes "nc" ∷ [] });
  devices = map plain_device (transistor (codes "m1") (codes "out") (codes "in") (codes "vdd") (codes "vdd") (codes "pch")
      ∷ transistor (codes "m2") (codes "out") (codes "in") (codes "0") (codes "0") (codes "nch")
      ∷ resistor (codes "r1") (codes "out") (codes "0") ∷ []);
  passed = [];
}

-- a cell named `r` with a capacitor, and a port that is a rail
abbrev pub r_sub : Sub
r_sub = record { line = 1; head = record { name = codes "r"; ports = codes "vdd" ∷ codes "p" ∷ [] }; cards = cards_at_one (resistor (codes "c1") (codes "vdd") (codes "p") ∷ []) }

-- a cell with a diode of no model, and a port on no card
abbrev pub odd_sub : Sub
odd_sub = record { line = 1; head = record { name = codes "odd"; ports = codes "b" ∷ [] }; cards = cards_at_one (record { name = codes "d1"; nodes = codes "a" ∷ codes "0" ∷ []; model = Some (codes "dm"); tail = [] } ∷ []) }

-- X cards
abbrev pub call_card : List ℕ → List (List ℕ) → List ℕ → Call
call_card name nodes sub = record { name = name; nodes = nodes; sub = sub }

-- two inverters in a row from a to y, and a capacitor
abbrev pub buffer_sub : Sub
buffer_sub = record {
  line = 1;
  head = record { name = codes "buf"; ports = codes "a" ∷ codes "y" ∷ [] };
  cards = call_at 1 (call_card (codes "x1") (codes "a" ∷ codes "n" ∷ []) (codes "inv"))
      ∷ call_at 1 (call_card (codes "x2") (codes "n" ∷ codes "y" ∷ []) (codes "inv"))
      ∷ dev_at 1 (resistor (codes "c1") (codes "y") (codes "vdd")) ∷ [];
}

-- a cell that calls a skipped one
abbrev pub uses_sub : Sub
uses_sub = record {
  line = 1;
  head = record { name = codes "u"; ports = codes "p" ∷ [] };
  cards = call_at 1 (call_card (codes "x1") (codes "p" ∷ []) (codes "odd")) ∷ [];
}

-- an inverter, a cell that is skipped, the cell `r`, a buffer of two inverters, and a cell that calls the skipped one; `nch` is defined otherwise than in the deck
abbrev pub sample_library : Library
sample_library = record {
  deck = record {
    title = [];
    globals = [];
    models = model (codes "nch") (codes "other") ∷ model (codes "pch") (codes "pmos") ∷ [];
    subs = inverter_sub ∷ odd_sub ∷ r_sub ∷ buffer_sub ∷ uses_sub ∷ [];
    top = [];
    passed = [];
  };
  cells = record { level = 0; skip = None } ∷ record { level = 0; skip = Some (loose (codes "b")) } ∷ record { level = 0; skip = None }
      ∷ record { level = 1; skip = None } ∷ record { level = 1; skip = Some (uses (codes "odd")) } ∷ [];
}

-- ---- what is made of them

-- the shapes of the types: two transistors, a resistor, a diode, a capacitor, and the five cells
abbrev pub sample_shapes : List (List ℕ)
sample_shapes = (0 ∷ 1 ∷ 0 ∷ 2 ∷ []) ∷ (0 ∷ 1 ∷ 0 ∷ 2 ∷ []) ∷ (0 ∷ 0 ∷ []) ∷ (0 ∷ 1 ∷ []) ∷ (0 ∷ 0 ∷ [])
    ∷ (0 ∷ 1 ∷ []) ∷ (0 ∷ []) ∷ (0 ∷ 1 ∷ []) ∷ (0 ∷ 1 ∷ []) ∷ (0 ∷ []) ∷ []

-- the deck's devices
abbrev pub sample_devices : List Device
sample_devices = record { kind = 0; nets = 0 ∷ 1 ∷ 2 ∷ 2 ∷ [] } ∷ record { kind = 1; nets = 0 ∷ 1 ∷ 3 ∷ 3 ∷ [] } ∷ record { kind = 2; nets = 0 ∷ 3 ∷ [] } ∷ []

-- the pattern of the inverter
abbrev pub inverter_pattern : Pattern
inverter_pattern = record {
  devices = record { kind = 0; nets = 0 ∷ 1 ∷ 2 ∷ 2 ∷ [] } ∷ record { kind = 1; nets = 0 ∷ 1 ∷ 3 ∷ 3 ∷ [] } ∷ [];
  roles = Port 1 ∷ Port 0 ∷ Rail 1 ∷ Rail 0 ∷ [];
  ports = 1 ∷ 0 ∷ [];
}

-- ---- files

-- a file that is flattened to the deck of its subcircuit `top`
abbrev pub sample_file : List ℕ
sample_file = codes "\n.global vdd w\n.model nch nmos\n.subckt top in vdd nc\nm1 out in vdd vdd pch\nm2 out in 0 0 nch\nr1 out 0\n.ends\n"

-- a file of a library: an inverter, a cell that is skipped, and a buffer of two inverters
abbrev pub buffer_file : List ℕ
buffer_file = codes ".model pch pmos\n.subckt inv a y\nmp y a vdd vdd pch\nmn y a 0 0 nch\n.ends\n.subckt odd b\nd1 a 0 dm\n.ends\n.subckt buf a y\nx1 a n inv\nx2 n y inv\n.ends\n"

-- the inverter of that file
abbrev pub inverter_read : Sub
inverter_read = record {
  line = 2;
  head = inverter_head;
  cards = dev_at 3 (transistor (codes "mp") (codes "y") (codes "a") (codes "vdd") (codes "vdd") (codes "pch"))
      ∷ dev_at 4 (transistor (codes "mn") (codes "y") (codes "a") (codes "0") (codes "0") (codes "nch")) ∷ [];
}

-- the library of that file
abbrev pub buffer_library : Library
buffer_library = record {
  deck = record {
    title = [];
    globals = [];
    models = model (codes "pch") (codes "pmos") ∷ [];
    subs = inverter_read ∷ record {
      line = 6;
      head = record { name = codes "odd"; ports = codes "b" ∷ [] };
      cards = dev_at 7 (record { name = codes "d1"; nodes = codes "a" ∷ codes "0" ∷ []; model = Some (codes "dm"); tail = [] }) ∷ [];
    } ∷ record {
      line = 9;
      head = record { name = codes "buf"; ports = codes "a" ∷ codes "y" ∷ [] };
      cards = call_at 10 (call_card (codes "x1") (codes "a" ∷ codes "n" ∷ []) (codes "inv"))
          ∷ call_at 11 (call_card (codes "x2") (codes "n" ∷ codes "y" ∷ []) (codes "inv")) ∷ [];
    } ∷ [];
    top = [];
    passed = [];
  };
  cells = record { level = 0; skip = None } ∷ record { level = 0; skip = Some (loose (codes "b")) } ∷ record { level = 1; skip = None } ∷ [];
}
