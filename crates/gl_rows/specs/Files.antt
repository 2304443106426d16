-- The report of the files of a deck and a library, computed by trying all maps: on small rows, what the definitions of a round say can be read off.
use Rattle.std.specs.Prelude.{◌≡◌, not, ℕ, ◌&&◌, Bool, true, List, length, map, IsOkAnd, Some}
use Rattle.std.specs.List.{list_any}
use Rattle.gl_text.specs.Decks.{Sub, Deck, read_deck}
use Rattle.gl_text.specs.Flattening.{Flat, flatten}
use Rattle.gl_match.specs.LegalTests.{all_zip}
use Rattle.gl_match.specs.Listing.{Instance}
use Rattle.gl_match.specs.Choice.{sets_of}
use Rattle.gl_match.specs.Picks.{picks_of}
use Rattle.gl_base.specs.Rails.{run_rails}
use Rattle.gl_base.specs.Libraries.{Library, read_library}
use Rattle.gl_base.specs.BaseCircuit.{Source, circuit_of}
use Rattle.gl_base.specs.Stems.{names_in, stands_in, stem_of}
use Rattle.gl_base.specs.Rounds.{source_of, cells_at, searched, cell_pattern}
use Rattle.gl_base.specs.RoundReports.{rounds_of, left_of, report_text}
use Rattle.gl_base.specs.Lifting.{flat_deck, run_names, first_round}
use Rattle.gl_base.specs.Tried.{instances_of, is_listed}

-- ---- the report

-- the lists of the searched cells of level 0, of a source
abbrev pub lists_in : Source → Library → List (List Instance)
lists_in s library = let c = circuit_of s in map (λ (cell : Sub). instances_of c (cell_pattern s cell)) (searched (cells_at 0 library))

-- the same where no name is kept
abbrev pub lists_of : Flat → Library → List (List Instance)
lists_of flat library = lists_in (source_of flat library) library

-- the lists are complete
abbrev pub are_listed : Flat → Library → List (List Instance) → Bool
are_listed flat library lists = let s = source_of flat library in all_zip (is_listed (circuit_of s)) (map (cell_pattern s) (searched (cells_at 0 library))) lists

-- the report of lists
abbrev pub report_by : Flat → Library → List (List Instance) → List ℕ
report_by flat library lists = let picks = picks_of 1 (sets_of lists) in
    report_text (run_names flat (stem_of (names_in flat))) (rounds_of library.cells (first_round flat library lists picks)) (left_of (length flat.devices) lists picks)

-- the report of a flat deck and a library, of the computed lists
abbrev pub report_of : Flat → Library → List ℕ
report_of flat library = report_by flat library (lists_of flat library)

-- the computed lists are complete, and the computed stem stands in no name
abbrev pub is_checked : Flat → Library → Bool
is_checked flat library = are_listed flat library (lists_of flat library) && not (list_any (stands_in (stem_of (names_in flat))) (names_in flat))

-- the bytes are a deck and a library, and these are as told
abbrev pub Reads : List ℕ → List ℕ → (Deck → Library → Type 0) → Type 0
Reads deck library Told = IsOkAnd (read_deck true deck) (λ (d : Deck). IsOkAnd (read_library library) (λ (l : Library). Told d l))

-- the same of a deck that is flattened
abbrev pub Accepted : List ℕ → List ℕ → (Flat → Library → Type 0) → Type 0
Accepted deck library Told = Reads deck library (λ d l. IsOkAnd (flat_deck d l) (λ (f : Flat). Told f l))

-- the same of a subcircuit that is the top
abbrev pub AcceptedTop : List ℕ → List ℕ → List ℕ → (Flat → Library → Type 0) → Type 0
AcceptedTop top deck library Told =
    Reads deck library (λ d l. IsOkAnd (flatten d (run_rails d.globals l.deck.globals) (Some top)) (λ (f : Flat). Told f l))

-- the report of a deck and a library has this text
abbrev pub Reported : List ℕ → List ℕ → List ℕ → Type 0
Reported deck library text = Accepted deck library (λ f l. (report_of f l ≡ text) × (is_checked f l ≡ true))
