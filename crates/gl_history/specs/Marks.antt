-- What becomes of each device of a circuit, as chosen instances are gone through. This project's own.
use Rattle.std.specs.Prelude.{◌≡◌, ℕ, ◌+◌, ◌<◌, List, [], ◌∷◌, ◌++◌, map, slice_index_or, filter_map, All, if◌then◌else◌}
use Rattle.gl_match.specs.Graph.{is_in}
use Rattle.gl_match.specs.Listing.{Instance}
use Rattle.gl_lifting.specs.Replacement.{Slot, made, is_lowest}
use Rattle.gl_history.specs.Replacing.{Chosen, chosen_at}
use Rattle.gl_match.specs.declared.role.Pick.{Pick}
use Rattle.gl_history.specs.declared.marks.Marks.{Marks}
use Rattle.gl_history.specs.declared.fate.Fate.{Fate}
use Rattle.gl_history.specs.declared.fate.Fate.TheVariants.{Stays, Goes, Becomes}

-- what becomes of a device; past the end it stays
abbrev pub fate_at : List Fate → ℕ → Fate
fate_at fates dev = slice_index_or fates dev Stays

-- a device of a chosen instance goes, unless one before it takes its place
abbrev pub gone : Fate → Fate
gone Stays = Goes
gone Goes = Goes
gone (Becomes index) = Becomes index

-- the lowest device of a chosen instance becomes it, unless it became one before
abbrev pub becomes : ℕ → Fate → Fate
becomes index Stays = Becomes index
becomes index Goes = Becomes index
becomes index (Becomes before) = Becomes before

-- what becomes of a device after one more chosen instance
abbrev pub fate_by : ℕ → List ℕ → ℕ → Fate → Fate
fate_by dev set index fate = if is_lowest dev set then becomes index fate else (if is_in set dev then gone fate else fate)

-- what becomes of a device after chosen instances that are numbered from an index on
abbrev pub fate_from : ℕ → ℕ → List (List ℕ) → Fate → Fate
fate_from dev index [] fate = fate
fate_from dev index (set ∷ sets) fate = fate_from dev (index + 1) sets (fate_by dev set index fate)

-- the fates are those that chosen instances give, and the slots are theirs
pub record IsMarked (chosen : List Chosen) (fates : List Fate) (slots : List Slot) : Type 0 where
  pub fates_are : (dev : ℕ) → fate_at fates dev ≡ fate_from dev 0 (map (λ (c : Chosen). c.set) chosen) Stays
  pub slots_are : slots ≡ map (λ (c : Chosen). c.slot) chosen

-- what is marked is what chosen instances give
abbrev pub Holds : Marks → List Chosen → Type 0
Holds marks chosen = IsMarked chosen marks.fates.items marks.slots.items

-- all devices of some instances are below a number
abbrev pub AreBelow : ℕ → List Instance → Type 0
AreBelow n list = All (λ (i : Instance). All (λ dev. dev < n) i.key.set) list

-- the device that stands for a chosen instance of a number
abbrev pub made_slot : ℕ → ℕ → List ℕ → Slot
made_slot kind number binding = record { device = record { kind = kind; nets = binding }; origin = made number }

-- those of a cell's instances that are chosen, by the type of the devices that stand for them
abbrev pub chosen_among : ℕ → List (Instance × Pick) → List Chosen
chosen_among kind picked = filter_map (chosen_at kind) picked

-- a fate that leads to a chosen instance leads to one of so many
abbrev pub IsWithin : ℕ → Fate → Type 0
IsWithin count Stays = Unit {0}
IsWithin count Goes = Unit {0}
IsWithin count (Becomes index) = index < count

-- what stands at the place of a device, by its fate and the slots of the chosen instances
abbrev pub slots_by : List Slot → Slot → Fate → List Slot
slots_by slots slot Stays = slot ∷ []
slots_by slots slot Goes = []
slots_by slots slot (Becomes index) = slice_index_or slots index slot ∷ []

-- the same at all places
abbrev pub all_slots_by : List Slot → List Slot → List Fate → List Slot
all_slots_by chosen [] fates = []
all_slots_by chosen (slot ∷ slots) [] = []
all_slots_by chosen (slot ∷ slots) (fate ∷ fates) = slots_by chosen slot fate ++ all_slots_by chosen slots fates
