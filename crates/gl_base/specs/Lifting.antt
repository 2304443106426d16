-- What the job `lift` writes of a deck and a library: the report of one round over the searched cells of level 0. This project's own.
use Rattle.std.specs.Prelude.{◌≡◌, ℕ, List, length, map, zip, None, Result, Ok}
use Rattle.gl_text.specs.LogicalLines.{Fault}
use Rattle.gl_text.specs.Decks.{Deck}
use Rattle.gl_text.specs.Flattening.{Flat, device_name, flatten}
use Rattle.gl_match.specs.declared.role.Pick.{Pick}
use Rattle.gl_match.specs.Listing.{Instance}
use Rattle.gl_base.specs.Libraries.{Library}
use Rattle.gl_base.specs.Rails.{run_rails}
use Rattle.gl_base.specs.BaseCircuit.{circuit_of, nets_of}
use Rattle.gl_base.specs.Stems.{IsStem, names_in}
use Rattle.gl_base.specs.Rounds.{cards_of, source_of, cells_at, searched, cell_pattern, IsRound}
use Rattle.gl_base.specs.RoundReports.{RunNames, RoundPart, cell_parts, rounds_of, left_of, report_text}

-- the flat deck of a deck, with the rails of the run: the deck's globals, and then the library's
abbrev pub flat_deck : Deck → Library → Result Flat Fault
flat_deck deck library = flatten deck (run_rails deck.globals library.deck.globals) None

-- the names that the report of a flat deck prints
abbrev pub run_names : Flat → List ℕ → RunNames
run_names flat stem = record { stem = stem; nets = nets_of (cards_of flat) }

-- what is reported of the first round
abbrev pub first_round : Flat → Library → List (List Instance) → List (List Pick) → RoundPart
first_round flat library lists picks = record { devices = map device_name flat.devices; cells = cell_parts (cells_at 0 library) (zip lists picks) }

-- the text is the report of the complete lists of all searched cells of level 0 in the flat deck's circuit, and of the choice over them
pub record IsReport (flat : Flat) (library : Library) (text : List ℕ) : Type 0 where
  pub lists : List (List Instance)
  pub picks : List (List Pick)
  pub stem : List ℕ
  pub round : IsRound (circuit_of (source_of flat library)) 1 (map (cell_pattern (source_of flat library)) (searched (cells_at 0 library))) lists picks
  pub stem_is : IsStem (names_in flat) stem
  pub text_is : text ≡ report_text (run_names flat stem) (rounds_of library.cells (first_round flat library lists picks)) (left_of (length flat.devices) lists picks)

-- the same of a deck that is flattened
pub record IsLiftReport (deck : Deck) (library : Library) (text : List ℕ) : Type 0 where
  pub flat : Flat
  pub flattened : flat_deck deck library ≡ Ok flat
  pub report : IsReport flat library text
