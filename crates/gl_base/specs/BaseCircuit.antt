-- The circuit of a flat deck's devices. This project's own.
use Rattle.std.specs.Prelude.{ℕ, List, ◌++◌, length, map, flat_map, filter_map, position}
use Rattle.std.specs.List.{position_or_len}
use Rattle.gl_text.specs.LogicalLines.{same_text}
use Rattle.gl_text.specs.Cards.{Device as Card, Model}
use Rattle.gl_text.specs.Decks.{once}
use Rattle.gl_match.specs.Graph.{Device, Circuit}
use Rattle.gl_base.specs.Rails.{all_rails}
use Rattle.gl_base.specs.TypeNames.{TypeName, same_type, type_of, classes_of, each_once}

-- what circuits and patterns of a run are made from: the run's rails, the models, the deck's devices, each cell's cards, and the names that pin nets
pub record Source : Type 0 where
  pub rails : List (List ℕ)
  pub deck_models : List Model
  pub library_models : List Model
  pub devices : List Card
  pub cells : List (List Card)
  pub pinned : List (List ℕ)

-- the names of nets, each once, going through the devices and their places
abbrev pub nets_of : List Card → List (List ℕ)
nets_of devices = once (flat_map (λ (d : Card). d.nodes) devices)

-- the number of a net of a name
abbrev pub net_number : List (List ℕ) → List ℕ → ℕ
net_number nets name = position_or_len (same_text name) nets

-- the type of a device, by the models of the run
abbrev pub type_in : Source → Card → TypeName
type_in s = type_of s.deck_models s.library_models

-- the types by their numbers: those of the deck's devices, and then those of the cells' devices
abbrev pub types_of : Source → List TypeName
types_of s = each_once (map (type_in s) (s.devices ++ flat_map (λ cards. cards) s.cells))

-- the number of a type
abbrev pub type_number : List TypeName → TypeName → ℕ
type_number types t = position_or_len (same_type t) types

-- a card as a device: the number of its type, and the number of the net of each place
abbrev pub device_by : (Card → TypeName) → List TypeName → List (List ℕ) → Card → Device
device_by type types nets d = record { kind = type_number types (type d); nets = map (net_number nets) d.nodes }

-- a card as a device of the circuit
abbrev pub device_of : Source → List (List ℕ) → Card → Device
device_of s = device_by (type_in s) (types_of s)

-- the circuit of the deck's devices; a rail that no device has is no net, a pinned name that no device has pins nothing, and any other pins its net once
abbrev pub circuit_of : Source → Circuit
circuit_of s = let nets = nets_of s.devices in record {
  shapes = map classes_of (types_of s);
  devices = map (device_of s nets) s.devices;
  nets = length nets;
  rails = map (λ rail. position (same_text rail) nets) (all_rails s.rails);
  pinned = filter_map (λ name. position (same_text name) nets) (once s.pinned);
}
