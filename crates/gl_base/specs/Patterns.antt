-- The pattern of a cell. This project's own.
use Rattle.std.specs.Prelude.{ℕ, ◌≤◌, List, length, map, flat_map, position, Option, Some, None, All}
use Rattle.gl_text.specs.LogicalLines.{FILE, same_text}
use Rattle.gl_text.specs.Cards.{Device as Card, Head, IsDeviceCard}
use Rattle.gl_text.specs.CellCards.{places_count}
use Rattle.gl_match.specs.declared.role.Role.{Role}
use Rattle.gl_match.specs.declared.role.Role.TheVariants.{Port, Rail, Inner}
use Rattle.gl_match.specs.Graph.{Circuit, Pattern}
use Rattle.gl_base.specs.Rails.{all_rails, AreRails}
use Rattle.gl_base.specs.BaseCircuit.{Source, nets_of, net_number, device_of}

-- what a net is, by its place among the rails and among the ports
abbrev pub role_by : Option ℕ → Option ℕ → Role
role_by (Some rail) port = Rail rail
role_by None (Some port) = Port port
role_by None None = Inner

-- a net is a rail of the run by its name, port or not; else a port; else inner
abbrev pub role_of : List (List ℕ) → List (List ℕ) → List ℕ → Role
role_of rails ports net = role_by (position (same_text net) (all_rails rails)) (position (same_text net) ports)

-- the pattern of a cell: its cards with the type numbers of the circuit, its own nets, and the net of each port
abbrev pub pattern_of : Source → Head → List Card → Pattern
pattern_of s head cards = let nets = nets_of cards in record {
  devices = map (device_of s nets) cards;
  roles = map (role_of s.rails head.ports) nets;
  ports = map (net_number nets) head.ports;
}

-- the circuit of a deck, and patterns that are looked for in it
pub record Base : Type 0 where
  pub circuit : Circuit
  pub patterns : List Pattern

-- what circuits and patterns are made from: the deck's cards are such as are read, rails differ, and there are few enough of all
pub record IsSound (s : Source) : Type 0 where
  pub deck_cards : All IsDeviceCard s.devices
  pub rails_differ : AreRails s.rails
  pub deck_places : places_count s.devices ≤ FILE
  pub cell_places : places_count (flat_map (λ cards. cards) s.cells) ≤ FILE
  pub few_rails : length s.rails ≤ 134217728
