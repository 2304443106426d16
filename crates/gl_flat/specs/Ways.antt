-- X cards on the way to a card, and the place to which they lead.
use Rattle.std.specs.Prelude.{◌≡◌, ℕ, List, [], ◌∷◌, ◌++◌, map, fold, zip, Option, Some, None, position, slice_get, if◌then◌else◌}
use Rattle.std.specs.List.{AllByRecursion}
use Rattle.gl_text.specs.LogicalLines.{same_text}
use Rattle.gl_text.specs.Cards.{Device}
use Rattle.gl_text.specs.Decks as decks
use Rattle.gl_text.specs.Flattening.{FlatDevice, Net, Place, flat_devices, is_rail, net_of, top_net, top_place}
use Rattle.gl_printed.specs.ReadDecks.{AllDiffer, body_name}
use Rattle.gl_flat.specs.declared.step.Step.{Step}
use Rattle.gl_flat.specs.declared.scene.Scene.{Scene}

-- the place behind one more X card
abbrev pub behind : List (List ℕ) → Place → Step → Place
behind rails place s = record { path = place.path ++ s.call.now.name ∷ []; ports = zip s.ports.now.keys (map (net_of rails place) s.call.now.nodes) }

-- the place behind X cards, the outermost first
abbrev pub place_of : List (List ℕ) → List Step → Place
place_of rails way = fold (behind rails) top_place way

-- the names of the X cards
abbrev pub path_of : List Step → List (List ℕ)
path_of way = map (λ (s : Step). s.call.now.name) way

-- a rail is a net of the top, any other name that of a net of the scope behind X cards
abbrev pub scope_net : List (List ℕ) → List Step → List ℕ → Net
scope_net rails way name = if is_rail rails name then top_net name else record { path = path_of way; name = name }

-- the net of a name behind X cards
abbrev pub net_behind : List (List ℕ) → List Step → List ℕ → Net
net_behind rails way name = net_of rails (place_of rails way) name

-- the nets of names
abbrev pub nets_behind : List (List ℕ) → List Step → List (List ℕ) → List Net
nets_behind rails way names = map (net_of rails (place_of rails way)) names

-- the device of a card behind X cards
abbrev pub device_behind : List (List ℕ) → List Step → Device → FlatDevice
device_behind rails way card = record { path = (place_of rails way).path; card = card; nets = nets_behind rails way card.nodes }

-- the devices of cards behind X cards, through at most so many more
abbrev pub devices_behind : Scene → ℕ → List Step → List decks.Body → List FlatDevice
devices_behind s depth way cards = flat_devices s.rails.now.keys s.subs.now depth (place_of s.rails.now.keys way) cards

-- the node that stands for a port
abbrev pub node_at : List (List ℕ) → Option ℕ → Option (List ℕ)
node_at nodes None = None
node_at nodes (Some place) = slice_get nodes place

abbrev pub actual_node : Step → List ℕ → Option (List ℕ)
actual_node s name = node_at s.call.now.nodes (position (same_text name) s.ports.now.keys)

-- no subcircuit has a port twice
abbrev pub PortsDiffer : List decks.Sub → Type 0
PortsDiffer subs = AllByRecursion (λ (s : decks.Sub). AllDiffer s.head.ports) subs

-- no two cards of a subcircuit have one name
abbrev pub NamesDiffer : List decks.Sub → Type 0
NamesDiffer subs = AllByRecursion (λ (s : decks.Sub). AllDiffer (map body_name s.cards)) subs

-- the ports of each subcircuit are known
pub record IsScene (s : Scene) : Type 0 where
  pub ports : map (λ t. t.keys) s.ports.now ≡ map (λ (t : decks.Sub). t.head.ports) s.subs.now
