-- The nets of a device that is reached.
use Rattle.std.specs.Prelude.{ℕ, List, map, Option, Some, None}
use Rattle.gl_text.specs.Flattening.{Net, top_net}

-- the nets behind X cards as they are found, or, at the top, the nets of the nodes
abbrev pub nets_by : Option (List Net) → List (List ℕ) → List Net
nets_by None nodes = map top_net nodes
nets_by (Some nets) nodes = nets
