-- What the chosen instances of a round make of a circuit's devices, told by numbers of cells. This project's own.
use Rattle.std.specs.Prelude.{ℕ, Bool, List, [], ◌∷◌, map, flat_map, filter_map, find, zip, Option, Some, None, option_map, slice_index_or, if◌then◌else◌}
use Rattle.std.specs.List.{list_any, enumerate_from}
use Rattle.gl_match.specs.declared.role.Pick.{Pick}
use Rattle.gl_match.specs.Graph.{Device, is_in}
use Rattle.gl_match.specs.Listing.{Instance}
use Rattle.gl_match.specs.Choice.{chosen_number}
use Rattle.gl_lifting.specs.Replacement.{Origin, made, Slot, is_lowest}
use Rattle.gl_match.specs.Cells.{Cell}
use Rattle.gl_history.specs.Plain.{RoundCell}

-- a chosen instance: its devices, and the device that takes their place
pub record Chosen : Type 0 where
  pub set : List ℕ
  pub slot : Slot

-- the type of the devices that stand for the instances of a cell
abbrev pub kind_at : List Cell → ℕ → ℕ
kind_at cells cell = slice_index_or (map (λ (c : Cell). c.kind) cells) cell 0

-- an instance of a cell, if it is chosen, by the type of the devices that stand for it
abbrev pub chosen_at : ℕ → Instance × Pick → Option Chosen
chosen_at kind i = option_map (λ number. record {
  set = i.0.key.set;
  slot = record { device = record { kind = kind; nets = i.0.key.binding }; origin = made number };
}) (chosen_number i.1)

-- the chosen instances of a cell, in the order of its list
abbrev pub chosen_of_cell : List Cell → RoundCell → List Chosen
chosen_of_cell cells found = filter_map (chosen_at (kind_at cells found.cell)) (zip found.list found.picks)

-- the chosen instances of a round, cell by cell
abbrev pub chosen_of : List Cell → List RoundCell → List Chosen
chosen_of cells found = flat_map (chosen_of_cell cells) found

-- what stands at a place, by the chosen instance that takes it, and whether a chosen one had the device that stood there
abbrev pub slot_by : Option Chosen → Bool → Slot → List Slot
slot_by (Some c) had slot = c.slot ∷ []
slot_by None had slot = if had then [] else slot ∷ []

-- what stands at a place: the device of the chosen instance whose lowest device stood there, nothing where another one's device stood, else what stood there
abbrev pub slots_at : List Chosen → ℕ × Slot → List Slot
slots_at chosen place = slot_by (find (λ (c : Chosen). is_lowest place.0 c.set) chosen) (list_any (λ (c : Chosen). is_in c.set place.0) chosen) place.1

-- a circuit's devices, in which chosen instances stand for what they were found in
abbrev pub slots_after : List Chosen → List Slot → List Slot
slots_after chosen slots = flat_map (slots_at chosen) (enumerate_from 0 slots)

-- devices with their origins
abbrev pub slots_of : List Device → List Origin → List Slot
slots_of [] origins = []
slots_of (device ∷ devices) [] = []
slots_of (device ∷ devices) (origin ∷ origins) = record { device = device; origin = origin } ∷ slots_of devices origins
