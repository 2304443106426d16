-- Parts of the lines of a flat text.
use Rattle.std.specs.Prelude.{ℕ, List, map, flat_map, Option, option_to_list}
use Rattle.gl_text.specs.Cards.{Head}
use Rattle.gl_text.specs.Flattening.{Net, FlatDevice, net_name, flat_line, around}
use Rattle.gl_card.specs.Lines.{spaced_all}

-- a space and the flat name of each net
abbrev pub nets_text : List Net → List ℕ
nets_text nets = spaced_all (map net_name nets)

-- a space and a model's name, if there is one
abbrev pub model_text : Option (List ℕ) → List ℕ
model_text model = spaced_all (option_to_list model)

-- the lines of devices, between those of the top subcircuit if there is one
abbrev pub devices_text : Option Head → List FlatDevice → List ℕ
devices_text head devices = around head (flat_map flat_line devices)
