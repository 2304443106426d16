-- The nets of a flat deck.
use Rattle.std.specs.Prelude.{List, ◌∷◌, ◌++◌, map, flat_map, codes}
use Rattle.gl_text.specs.Flattening.{Net, FlatDevice, Flat, top_net, top_ports}

-- the nets of devices
abbrev pub device_nets : Flat → List Net
device_nets f = flat_map (λ (d : FlatDevice). d.nets) f.devices

-- `0`, rails and ports of the top, and the nets of devices
abbrev pub all_nets : Flat → List Net
all_nets f = map top_net (codes "0" ∷ f.rails ++ top_ports f.top) ++ device_nets f
