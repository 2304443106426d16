-- What the job `lift` writes of a deck and a library with a top or none and with kept names: the lifted deck, the map of names and the report of all rounds. This project's own.
use Rattle.std.specs.Prelude.{◌≡◌, ℕ, List, Option, None, Some, Result, Ok, Err, option_map}
use Rattle.std.specs.List.{AllZip}
use Rattle.gl_fault.specs.Refusals.{or_else}
use Rattle.gl_text.specs.LogicalLines.{Fault}
use Rattle.gl_text.specs.Decks.{Deck, deck_text}
use Rattle.gl_text.specs.Flattening.{Flat, flatten}
use Rattle.gl_match.specs.declared.role.Pick.{Pick}
use Rattle.gl_match.specs.Graph.{Circuit, Pattern}
use Rattle.gl_match.specs.Listing.{Instance, Listed}
use Rattle.gl_match.specs.Choice.{IsChoice, IsChosen, Meet, joined, sets_of}
use Rattle.gl_base.specs.Libraries.{Library}
use Rattle.gl_base.specs.Rails.{run_rails}
use Rattle.gl_base.specs.Keeping.{unknown_keep}
use Rattle.gl_base.specs.Stems.{IsStem, names_in}
use Rattle.gl_base.specs.Rounds.{source_of}
use Rattle.gl_lifting.specs.Runs.{Run, run_of}
use Rattle.gl_lifting.specs.Histories.{History, IsHistory, AreRounds}
use Rattle.gl_lifting.specs.HistoryReports.{history_report}
use Rattle.gl_lifting.specs.LiftedDecks.{lifted_deck}
use Rattle.gl_lifting.specs.NameMaps.{map_of, map_text}
use Rattle.gl_lifting.specs.OutLimits.{OutLimit, limits, out_limit}
use Rattle.gl_lifting.specs.LiftJobs.{Texts}

-- ---- what is lifted

-- the flat deck of a deck, with a top or none, and with the rails of the run: the deck's globals, and then the library's
abbrev pub flat_deck : Option (List ℕ) → Deck → Library → Result Flat Fault
flat_deck top deck library = flatten deck (run_rails deck.globals library.deck.globals) top

-- why nothing is written of a deck and a library that were read: there is no flat deck, or a kept name is no net of a device
pub data LiftCause : Type 0 where
  of_flat : Fault → LiftCause
  of_keep : List ℕ → LiftCause

-- a flat deck, unless a kept name is no net of its devices; the first such name is told
abbrev pub unless_unknown : List (List ℕ) → Library → Result Flat Fault → Result Flat LiftCause
unless_unknown keep library (Ok flat) = or_else (option_map of_keep (unknown_keep keep (source_of flat library))) flat
unless_unknown keep library (Err fault) = Err (of_flat fault)

-- the flat deck in which cells are looked for
abbrev pub lifted_flat : Option (List ℕ) → List (List ℕ) → Deck → Library → Result Flat LiftCause
lifted_flat top keep deck library = unless_unknown keep library (flat_deck top deck library)

-- ---- what is so of each round

-- each searched cell of the round's level has its complete list against the round's circuit
abbrev pub AreComplete : Circuit → ℕ → List Pattern → List (List Instance) → List (List Pick) → Type 0
AreComplete c first patterns lists picks = AllZip (Listed c) patterns lists

-- the picks are the choice over all lists of the round, with numbers from the first
abbrev pub AreChoice : Circuit → ℕ → List Pattern → List (List Instance) → List (List Pick) → Type 0
AreChoice c first patterns lists picks = IsChoice first (sets_of lists) picks

-- no two instances that are chosen in the round have a device in common
abbrev pub AreApart : Circuit → ℕ → List Pattern → List (List Instance) → List (List Pick) → Type 0
AreApart c first patterns lists picks = (i j k l : ℕ) → IsChosen (joined picks) i k → IsChosen (joined picks) j l → Meet (joined (sets_of lists)) i j → i ≡ j

-- ---- what is written

-- the texts are told from the history of a run: in each of its rounds lists are complete, picks are the choice, and no two chosen instances have a device in common
pub record AreTextsOf (run : Run) (flat : Flat) (texts : Texts) : Type 0 where
  pub history : History
  pub history_is : IsHistory run history
  pub complete : AreRounds AreComplete run history
  pub choice : AreRounds AreChoice run history
  pub apart : AreRounds AreApart run history
  pub stem : List ℕ
  pub stem_is : IsStem (names_in flat) stem
  pub lifted_is : texts.lifted ≡ deck_text (lifted_deck stem flat run.source history)
  pub map_is : texts.map ≡ map_text (map_of stem flat run.source history)
  pub report_is : texts.report ≡ history_report stem flat run.library history

-- ---- limits

-- texts of a run, and the limit that they pass first, if they pass one
pub record HaveLimit (run : Run) (flat : Flat) (limit : Option OutLimit) (texts : Texts) : Type 0 where
  pub texts_are : AreTextsOf run flat texts
  pub limit_is : out_limit limits flat.top (lifted_deck texts_are.stem flat run.source texts_are.history) texts.map texts.report ≡ limit

-- the texts are those of a flat deck, in whose circuit the nets of these names are kept, and they pass no limit
abbrev pub AreLiftTexts : List (List ℕ) → Library → Flat → Texts → Type 0
AreLiftTexts keep library flat texts = HaveLimit (run_of flat library keep) flat None texts

-- the texts of such a flat deck pass this limit first
abbrev pub IsLiftLimit : List (List ℕ) → Library → Flat → OutLimit → Type 0
IsLiftLimit keep library flat limit = (texts : Texts) × HaveLimit (run_of flat library keep) flat (Some limit) texts
