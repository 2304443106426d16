-- Names that a caller keeps: each pins its net, so that no cell takes it as an inner net. This project's own.
use Rattle.std.specs.Prelude.{◌≡◌, not, ℕ, List, ◌∷◌, ◌++◌, map, find, All, Contains, Option, Result}
use Rattle.gl_fault.specs.Refusals.{or_else}
use Rattle.gl_text.specs.Decks.{is_in}
use Rattle.gl_base.specs.BaseCircuit.{Source, nets_of, circuit_of}
use Rattle.gl_base.specs.Patterns.{Base}
use Rattle.gl_base.specs.Libraries.{Library}
use Rattle.gl_base.specs.Rounds.{cells_at, searched, cell_pattern}

-- a source with kept names: the names that pin nets are those that did, the ports of the top, and then the kept names
abbrev pub keeping : List (List ℕ) → Source → Source
keeping keep s = record {
  rails = s.rails;
  deck_models = s.deck_models;
  library_models = s.library_models;
  devices = s.devices;
  cells = s.cells;
  pinned = s.pinned ++ keep;
}

-- the first kept name that is no net of the devices
abbrev pub unknown_keep : List (List ℕ) → Source → Option (List ℕ)
unknown_keep keep s = find (λ name. not (is_in name (nets_of s.devices))) keep

-- a name is kept that is no net of the devices, and each that is kept before it is one
pub record IsFirstUnknown (keep : List (List ℕ)) (s : Source) (name : List ℕ) : Type 0 where
  pub before : List (List ℕ)
  pub behind : List (List ℕ)
  pub stands : keep ≡ before ++ name ∷ behind
  pub unknown : ¬ Contains (nets_of s.devices) name
  pub known_before : All (λ other. Contains (nets_of s.devices) other) before

-- the circuit of a source, and the patterns of the searched cells of level 0 of a library
abbrev pub base_of : Source → Library → Base
base_of s library = record { circuit = circuit_of s; patterns = map (cell_pattern s) (searched (cells_at 0 library)) }

-- circuit and patterns of a source with kept names, or else the first of these that is no net of the devices
abbrev pub base_keeping : List (List ℕ) → Source → Library → Result Base (List ℕ)
base_keeping keep s library = or_else (unknown_keep keep s) (base_of (keeping keep s) library)
