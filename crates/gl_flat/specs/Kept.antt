-- How a flat deck is kept: the names of its nets stand in a list, and a device has its nets by their places there.
use Rattle.std.specs.Prelude.{◌≡◌, ℕ, List, map, flat_map, Option}
use Rattle.gl_text.specs.Cards.{Device as Card, dev}
use Rattle.gl_text.specs.Decks.{line_of}
use Rattle.gl_flat.specs.PlainFlats.{plain_device}
use Rattle.gl_text.specs.Flattening.{FlatDevice, net_name, device_name}
use Rattle.gl_base.specs.BaseCircuit.{nets_of, net_number}
use Rattle.gl_base.specs.Reports.{name_at}
use Rattle.gl_card.specs.Lines.{spaced_all}

-- a device as it is kept: its flat name, the numbers of its nets, and what its card carries
pub record KeptDevice : Type 0 where
  pub name : List ℕ
  pub nets : List ℕ
  pub model : Option (List ℕ)
  pub tail : List ℕ

-- a card, each net by its number
abbrev pub kept_device : List (List ℕ) → Card → KeptDevice
kept_device nets c = record { name = c.name; nets = map (net_number nets) c.nodes; model = c.model; tail = c.tail }

-- cards, each net by its number among theirs
abbrev pub kept_of : List Card → List KeptDevice
kept_of cards = map (kept_device (nets_of cards)) cards

-- and back, each net by its name
abbrev pub kept_card : List (List ℕ) → KeptDevice → Card
kept_card nets d = record { name = d.name; nodes = map (name_at nets) d.nets; model = d.model; tail = d.tail }

abbrev pub kept_cards : List (List ℕ) → List KeptDevice → List Card
kept_cards nets devices = map (kept_card nets) devices

-- devices that are kept, as flat devices of the top
abbrev pub kept_devices : List (List ℕ) → List KeptDevice → List FlatDevice
kept_devices nets devices = map plain_device (kept_cards nets devices)

-- a flat device, each net by the number of its flat name
abbrev pub kept : List (List ℕ) → FlatDevice → KeptDevice
kept nets d = record { name = device_name d; nets = map (λ n. net_number nets (net_name n)) d.nets; model = d.card.model; tail = d.card.tail }

-- the list has the nets of the devices, each once in order of first appearance, and each number is the first place of its name
pub record AreKept (nets : List (List ℕ)) (devices : List KeptDevice) : Type 0 where
  pub nets_are : nets ≡ nets_of (kept_cards nets devices)
  pub numbers_are : devices ≡ map (kept_device nets) (kept_cards nets devices)

-- a space and the name of each net, by their numbers
abbrev pub numbers_text : List (List ℕ) → List ℕ → List ℕ
numbers_text nets nodes = spaced_all (map (name_at nets) nodes)

-- the line of a kept device
abbrev pub device_line : List (List ℕ) → KeptDevice → List ℕ
device_line nets d = line_of (dev (kept_card nets d))

-- the lines of kept devices
abbrev pub device_lines : List (List ℕ) → List KeptDevice → List ℕ
device_lines nets devices = flat_map (device_line nets) devices
