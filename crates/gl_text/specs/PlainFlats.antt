-- Flat decks whose devices and nets stand at the top: what is left of a flat deck where ways are dissolved into names.
use Rattle.std.specs.Prelude.{List, [], map}
use Rattle.gl_text.specs.Cards.{Device}
use Rattle.gl_text.specs.Flattening.{FlatDevice, Flat, top_net, flat_card}

-- a card as a flat device of the top
abbrev pub plain_device : Device → FlatDevice
plain_device d = record { path = []; card = d; nets = map top_net d.nodes }

-- a flat deck with other devices, all of the top
abbrev pub plain_by : Flat → List Device → Flat
plain_by f devices = record {
  title = f.title;
  rails = f.rails;
  models = f.models;
  top = f.top;
  devices = map plain_device devices;
  passed = f.passed;
}

-- a flat deck with each device at the top, under its flat name and with the flat names of its nets
abbrev pub plain : Flat → Flat
plain f = plain_by f (map flat_card f.devices)
