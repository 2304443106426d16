-- What the jobs `lift` and `restore` write, from bytes to bytes, where histories are computed by trying maps: each row of a worked case can be read off.
use Rattle.std.specs.Prelude.{ℕ, true, List, Option, Some, None, Result, Ok, Err}
use Rattle.gl_text.specs.LogicalLines.{Fault}
use Rattle.gl_text.specs.Decks.{Deck, read_deck, deck_text}
use Rattle.gl_text.specs.Flattening.{Flat, flatten, flat_text}
use Rattle.gl_base.specs.Libraries.{Cause, Library, read_library}
use Rattle.gl_base.specs.Rails.{run_rails}
use Rattle.gl_base.specs.Stems.{names_in, stem_of}
use Rattle.gl_base.specs.Rounds.{source_of}
use Rattle.gl_base.specs.Keeping.{unknown_keep}
use Rattle.gl_lifting.specs.Runs.{Run, run_of}
use Rattle.gl_lifting.specs.Histories.{History}
use Rattle.gl_lifting.specs.HistoryReports.{history_report}
use Rattle.gl_lifting.specs.LiftedDecks.{lifted_deck}
use Rattle.gl_lifting.specs.NameMaps.{NameMap, map_of, map_text}
use Rattle.gl_lifting.specs.MapReading.{MapFault, read_map}
use Rattle.gl_lifting.specs.Renaming.{RestoreFault, restore}
use Rattle.gl_lifting.specs.OutLimits.{OutLimit, Limits, limits, out_limit, restored_limit}
use Rattle.gl_lifting.specs.Lifted.{Options}
use Rattle.gl_lifting.specs.TriedHistories.{tried_history}

-- ---- lifting

-- why nothing is written: the deck, the library, a kept name, or a limit
pub data Refusal : Type 0 where
  of_deck : Fault → Refusal
  of_library : Cause → Refusal
  of_keep : List ℕ → Refusal
  of_limit : OutLimit → Refusal

-- the three texts
pub record Texts : Type 0 where
  pub lifted : List ℕ
  pub map : List ℕ
  pub report : List ℕ

-- texts, unless a limit is passed
abbrev pub within : Option OutLimit → Texts → Result Texts Refusal
within None texts = Ok texts
within (Some limit) texts = Err (of_limit limit)

-- the texts of a history
abbrev pub texts_of : Limits → List ℕ → Flat → Run → History → Result Texts Refusal
texts_of l stem flat run h =
    let deck = lifted_deck stem flat run.source h in
    let names = map_text (map_of stem flat run.source h) in
    let report = history_report stem flat run.library h in
    within (out_limit l flat.top deck names report) (record { lifted = deck_text deck; map = names; report = report })

-- the texts of a run, unless a kept name is unknown
abbrev pub texts_unless : Limits → Option (List ℕ) → Flat → Run → Result Texts Refusal
texts_unless l None flat run = texts_of l (stem_of (names_in flat)) flat run (tried_history run)
texts_unless l (Some name) flat run = Err (of_keep name)

-- the texts of a flat deck and a library
abbrev pub texts_flat : Limits → Options → Library → Result Flat Fault → Result Texts Refusal
texts_flat l o library (Ok flat) = texts_unless l (unknown_keep o.keep (source_of flat library)) flat (run_of flat library o.keep)
texts_flat l o library (Err fault) = Err (of_deck fault)

-- the texts of a deck and a library
abbrev pub texts_read : Limits → Options → Deck → Result Library Cause → Result Texts Refusal
texts_read l o deck (Ok library) = texts_flat l o library (flatten deck (run_rails deck.globals library.deck.globals) o.top)
texts_read l o deck (Err cause) = Err (of_library cause)

-- the texts of a deck and the bytes of a library
abbrev pub texts_with : Limits → Options → List ℕ → Result Deck Fault → Result Texts Refusal
texts_with l o library (Ok deck) = texts_read l o deck (read_library library)
texts_with l o library (Err fault) = Err (of_deck fault)

-- what `lift` writes of the bytes of a deck and of a library
abbrev pub lift_job : Options → List ℕ → List ℕ → Result Texts Refusal
lift_job o deck library = texts_with limits o library (read_deck true deck)

-- ---- the way back

-- why nothing is restored: the deck, the map, the names of both, or the limit
pub data BackRefusal : Type 0 where
  of_lifted : Fault → BackRefusal
  of_map : MapFault → BackRefusal
  of_names : RestoreFault → BackRefusal
  of_length : OutLimit → BackRefusal

-- the text of a flat deck, unless a limit is passed
abbrev pub text_within : Option OutLimit → Flat → Result (List ℕ) BackRefusal
text_within None flat = Ok (flat_text flat)
text_within (Some limit) flat = Err (of_length limit)

-- the text of a restored deck
abbrev pub restored_text : Result Flat RestoreFault → Result (List ℕ) BackRefusal
restored_text (Ok flat) = text_within (restored_limit limits flat) flat
restored_text (Err fault) = Err (of_names fault)

-- the text of a flat deck under a map that is read
abbrev pub text_under : Flat → List ℕ → Result (List ℕ) BackRefusal
text_under flat names = by (read_map names) where
  by : Result NameMap MapFault → Result (List ℕ) BackRefusal
  by (Ok m) = restored_text (restore flat m)
  by (Err fault) = Err (of_map fault)

-- the text of a deck that is flattened
abbrev pub text_of_flat : List ℕ → Result Flat Fault → Result (List ℕ) BackRefusal
text_of_flat names (Ok flat) = text_under flat names
text_of_flat names (Err fault) = Err (of_lifted fault)

-- the text of a deck that is read
abbrev pub text_of_deck : Option (List ℕ) → List ℕ → Result Deck Fault → Result (List ℕ) BackRefusal
text_of_deck top names (Ok deck) = text_of_flat names (flatten deck deck.globals top)
text_of_deck top names (Err fault) = Err (of_lifted fault)

-- what `restore` writes of the bytes of a lifted deck and of a map
abbrev pub restore_job : Option (List ℕ) → List ℕ → List ℕ → Result (List ℕ) BackRefusal
restore_job top lifted names = text_of_deck top names (read_deck true lifted)
