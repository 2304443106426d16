-- The map of names of a run beside its flat deck, and what is told of it by tables. This project's own.
use Rattle.std.specs.Prelude.{ℕ, List, [], map, Option, unwrap_or}
use Rattle.std.specs.List.{enumerate_from}
use Rattle.gl_text.specs.Flattening.{Flat, device_name}
use Rattle.gl_base.specs.BaseCircuit.{nets_of}
use Rattle.gl_base.specs.Rounds.{cards_of}
use Rattle.gl_flat.specs.Kept.{KeptDevice}
use Rattle.gl_lifting.specs.NameMaps.{NameMap}
use Rattle.gl_named.specs.Walks.{renamed_from}

-- the map of a flat deck, by what stands under the numbers of its devices and of its nets
abbrev pub map_under : (ℕ → Option (List ℕ)) → (ℕ → Option (List ℕ)) → Flat → NameMap
map_under devices nets flat = record { devices = renamed_from devices 0 (map device_name flat.devices); nets = renamed_from nets 0 (nets_of (cards_of flat)) }

-- ---- lengths

-- a flat deck that has lost its devices
abbrev pub without_devices : Flat → Flat
without_devices flat = record (flat) { devices = [] }

-- a device under another name
abbrev pub under_name : List ℕ → KeptDevice → KeptDevice
under_name name d = record { name = name; nets = d.nets; model = d.model; tail = d.tail }

-- devices that are numbered from a number on, each under what stands under its number, or its own name where nothing does
abbrev pub devices_from : (ℕ → Option (List ℕ)) → ℕ → List KeptDevice → List KeptDevice
devices_from new number devices = map (λ (d : ℕ × KeptDevice). under_name (unwrap_or (new d.0) d.1.name) d.1) (enumerate_from number devices)

-- a flat deck, and the map of its names
pub record Named : Type 0 where
  pub flat : Flat
  pub map : NameMap
