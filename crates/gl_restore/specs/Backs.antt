-- Flat devices under their old names, as they are kept.
use Rattle.std.specs.Prelude.{ℕ, ◌+◌, List, [], ◌∷◌, length, filter_map, Option, option_map}
use Rattle.gl_text.specs.Flattening.{Flat}
use Rattle.gl_text.specs.PlainFlats.{plain_by}
use Rattle.gl_flat.specs.Kept.{KeptDevice, kept_cards}
use Rattle.gl_lifting.specs.NameMaps.{NameMap}
use Rattle.gl_lifting.specs.Renaming.{RestoreFault, missing, extra, net_merge, letter_changed, device_merge, first_fault, first_missing, first_line, is_for_none, is_merged, has_other_letter}
use Rattle.gl_restore.specs.Places.{first_named}

-- the name of a kept device
abbrev pub kept_name : KeptDevice → List ℕ
kept_name d = d.name

-- a device under another name
abbrev pub under_name : List ℕ → KeptDevice → KeptDevice
under_name name d = record { name = name; nets = d.nets; model = d.model; tail = d.tail }

-- the device of a line's new name, under its old one
abbrev pub back_of : List KeptDevice → List ℕ × List ℕ → Option KeptDevice
back_of devices line = option_map (under_name line.1) (first_named kept_name line.0 devices)

-- the devices of lines, in their order
abbrev pub backs_of : List KeptDevice → List (List ℕ × List ℕ) → List KeptDevice
backs_of devices lines = filter_map (back_of devices) lines

-- a flat deck with these devices, each net by the place of its name
abbrev pub flat_with : Flat → List (List ℕ) → List KeptDevice → Flat
flat_with f nets devices = plain_by f (kept_cards nets devices)

-- ---- what refuses the devices and nets of these names and a map, in two halves

-- a device or a net without a line
abbrev pub name_fault : List (List ℕ) → List (List ℕ) → NameMap → Option RestoreFault
name_fault devices nets m = first_fault (
    option_map missing (first_missing m.devices devices)
    ∷ option_map missing (first_missing m.nets nets) ∷ [])

-- a line that may not stand
abbrev pub line_fault : List (List ℕ) → List (List ℕ) → NameMap → Option RestoreFault
line_fault devices nets m = let behind = 2 + length m.devices in first_fault (
    option_map extra (first_line (is_for_none devices) 2 [] m.devices)
    ∷ option_map extra (first_line (is_for_none nets) behind [] m.nets)
    ∷ option_map net_merge (first_line is_merged behind [] m.nets)
    ∷ option_map letter_changed (first_line has_other_letter 2 [] m.devices)
    ∷ option_map device_merge (first_line is_merged 2 [] m.devices) ∷ [])
