-- The names of the nets of the top, which stand before all others, and the first clash with them or among devices.
use Rattle.std.specs.Prelude.{◌≡◌, ℕ, List, ◌∷◌, ◌++◌, map, flat_map, Option, option_map, codes}
use Rattle.gl_text.specs.LogicalLines.{Fault, name_clash}
use Rattle.gl_text.specs.Flattening.{FlatDevice, net, top_net, bearers, first_clash}
use Rattle.gl_flat.specs.declared.scene.Scene.{Scene}

-- `0`, the rails and the ports
abbrev pub top_names : Scene → List (List ℕ)
top_names s = codes "0" ∷ s.rails.now.keys ++ s.own.now.keys

-- the name that clashes, if one does
abbrev pub IsClash : Option Fault → Option (List ℕ) → Type 0
IsClash clash name = option_map name_clash name ≡ clash

-- the first name of devices that clashes with that of a net of the top, or of a device or another net before it
abbrev pub clash_with_top : Scene → List FlatDevice → Option Fault
clash_with_top s devices = first_clash (map (λ n. net (top_net n)) (top_names s)) (flat_map bearers devices)
