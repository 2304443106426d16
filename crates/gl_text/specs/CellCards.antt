-- The devices among cards, the lines of X cards, and what a cell of devices is. This project's own.
use Rattle.std.specs.Prelude.{◌≡◌, ℕ, ◌+◌, ◌<◌, nat_le, Bool, true, false, List, [], ◌∷◌, length, flat_map, filter_map, sum_by, Option, Some, None, codes, if◌then◌else◌, All}
use Rattle.std.specs.List.{list_all}
use Rattle.gl_text.specs.Cards.{Device, Head, IsDeviceCard}
use Rattle.gl_text.specs.Decks.{Body, dev_at, call_at, is_in, has_twice}

-- the device, if a card is one
abbrev pub device_in : Body → Option Device
device_in (dev_at line d) = Some d
device_in (call_at line c) = None

-- the devices among cards
abbrev pub devices_in : List Body → List Device
devices_in cards = filter_map device_in cards

-- the line of a card, if it is an X card
abbrev pub call_line : Body → Option ℕ
call_line (dev_at line d) = None
call_line (call_at line c) = Some line

-- the earlier of two lines, as far as there are any
abbrev pub earlier : Option ℕ → Option ℕ → Option ℕ
earlier None second = second
earlier (Some first) None = Some first
earlier (Some first) (Some second) = Some (if nat_le first second then first else second)

-- the earliest of lines
abbrev pub earliest : List ℕ → Option ℕ
earliest [] = None
earliest (line ∷ lines) = earlier (Some line) (earliest lines)

-- a net stands on a card
abbrev pub is_on_card : List Device → List ℕ → Bool
is_on_card devices net = is_in net (flat_map (λ (d : Device). d.nodes) devices)

-- the places of devices, and the devices
abbrev pub places_count : List Device → ℕ
places_count devices = sum_by (λ (d : Device). length d.nodes + 1) devices

-- the cell has cards, each port stands on one, and none is `0` or stands twice
pub record IsCellOf (head : Head) (devices : List Device) : Type 0 where
  pub cards : All IsDeviceCard devices
  pub some : 0 < length devices
  pub ports_differ : has_twice head.ports ≡ false
  pub no_zero : is_in (codes "0") head.ports ≡ false
  pub ports_stand : list_all (is_on_card devices) head.ports ≡ true
