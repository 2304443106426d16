-- Flat names that were seen behind the nets of the top: each name of a device, and each flat name of a net with the net that has it.
use Rattle.std.specs.Prelude.{ℕ, ◌==◌, ◌<◌, ◌^◌, ◌&&◌, Bool, true, false, List, [], ◌∷◌, length, map, filter, flat_map, Option, Some, None, Result, Ok, Err, if◌then◌else◌}
use Rattle.std.specs.List.{list_any}
use Rattle.std.specs.Map.{lookup}
use Rattle.indexmap.specs.IndexMap.{insert_entry}
use Rattle.indexmap.specs.IndexSet.{insert_all, insert_key}
use Rattle.gl_text.specs.LogicalLines.{Fault, name_clash, same_text}
use Rattle.gl_fault.specs.Refusals.{◌>>=◌}
use Rattle.gl_text.specs.Decks.{is_in}
use Rattle.gl_text.specs.Flattening.{Net, FlatDevice, Bearer, device, device_name, net, net_name, top_net, bearers, same_path}
use Rattle.gl_base.specs.BaseCircuit.{net_number}
use Rattle.gl_printed.specs.ReadDecks.{AllDiffer}

-- a name holds a dot, as all flat names behind X cards do
abbrev pub has_dot : List ℕ → Bool
has_dot name = list_any (λ b. b == 46) name

-- the names without a dot of devices
abbrev pub plain_names : List Bearer → List (List ℕ)
plain_names [] = []
plain_names (device name ∷ bs) = if has_dot name then plain_names bs else name ∷ plain_names bs
plain_names (net m ∷ bs) = plain_names bs

-- no two of them are the same
abbrev pub PlainDiffer : List FlatDevice → Type 0
PlainDiffer devices = AllDiffer (plain_names (flat_map bearers devices))

-- a device, or a net whose flat name holds a dot; no other net has the flat name of another
abbrev pub may_clash : Bearer → Bool
may_clash (device name) = true
may_clash (net m) = has_dot (net_name m)

-- what was seen: the names of the nets of the top, those of devices with a dot, and the flat names of the devices' nets, each with the first net that has it
pub record Seen : Type 0 where
  pub tops : List (List ℕ)
  pub devices : List (List ℕ)
  pub nets : List (List ℕ × Net)

-- nets of the top alone were seen
abbrev pub nothing_seen : List (List ℕ) → Seen
nothing_seen tops = record { tops = tops; devices = []; nets = [] }

-- the flat names of the devices' nets, in order of first appearance
abbrev pub net_names : Seen → List (List ℕ)
net_names s = map (λ (e : List ℕ × Net). e.0) s.nets

-- two nets are the same
abbrev pub same_net : Net → Net → Bool
same_net m n = same_path m.path n.path && same_text m.name n.name

-- a path leads behind X cards
abbrev pub is_below : List (List ℕ) → Bool
is_below [] = false
is_below (name ∷ names) = true

-- the net is none of the top, and has the name of one
abbrev pub takes_top_name : Seen → Net → Bool
takes_top_name s m = is_below m.path && is_in (net_name m) s.tops

-- a net more, where this one of a device has its flat name
abbrev pub with_net : Seen → Net → Option Net → Result Seen Fault
with_net s m None = if takes_top_name s m then Err (name_clash (net_name m)) else Ok (record s { nets = insert_entry same_text s.nets (net_name m) m })
with_net s m (Some known) = if same_net m known then Ok s else Err (name_clash (net_name m))

-- a device more
abbrev pub with_device : Seen → List ℕ → Result Seen Fault
with_device s name = if is_in name s.devices then Err (name_clash name) else Ok (record s { devices = insert_key same_text s.devices name })

-- a device's or a net's name more, or the clash with one that was seen; a device's name without a dot is not looked up, since none behind X cards has it
abbrev pub seen_with : Seen → Bearer → Result Seen Fault
seen_with s (device name) = if has_dot name then with_device s name else Ok s
seen_with s (net m) = with_net s m (lookup (same_text (net_name m)) s.nets)

-- names more, or the first clash
abbrev pub seen_all : Seen → List Bearer → Result Seen Fault
seen_all s [] = Ok s
seen_all s (b ∷ bs) = seen_with s b >>= λ t. seen_all t bs

-- one name more
abbrev pub seen_one : Seen → Bearer → Result Seen Fault
seen_one s b = seen_all s (b ∷ [])

-- those of them that may clash more
abbrev pub seen_risks : Seen → List Bearer → Result Seen Fault
seen_risks s bs = seen_all s (filter may_clash bs)

-- nets of the top, by their names
abbrev pub top_nets : List (List ℕ) → List Net
top_nets names = map top_net names

-- the same as what has a flat name
abbrev pub top_bearers : List (List ℕ) → List Bearer
top_bearers names = map net (top_nets names)

-- the device itself, as what has a flat name
abbrev pub own : FlatDevice → Bearer
own d = device (device_name d)

-- what has a flat name in devices
abbrev pub bearers_of : List FlatDevice → List Bearer
bearers_of devices = flat_map bearers devices

-- the number of a net: the place of its flat name
abbrev pub number_in : Seen → Net → ℕ
number_in s m = net_number (net_names s) (net_name m)

-- the numbers of nets
abbrev pub numbers_in : Seen → List Net → List ℕ
numbers_in s nets = map (number_in s) nets

-- with these flat names too, there are fewer than numbers
abbrev pub HasRoom : Seen → List (List ℕ) → Type 0
HasRoom s names = length (insert_all same_text (net_names s) names) < 2 ^ 32
