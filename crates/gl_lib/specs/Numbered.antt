-- Cards whose types and nets have numbers. This project's own.
use Rattle.std.specs.Prelude.{◌≡◌, ℕ, List, true, All}
use Rattle.std.specs.List.{list_any}
use Rattle.gl_text.specs.Cards.{Device as Card}
use Rattle.gl_text.specs.Decks.{Body, dev_at, call_at, is_in}
use Rattle.gl_printed.specs.ReadDecks.{FindsSub}
use Rattle.gl_base.specs.TypeNames.{TypeName, same_type}
use Rattle.gl_base.specs.BaseCircuit.{Source, type_in, types_of}
use Rattle.gl_base.specs.Libraries.{nodes_of}
use Rattle.gl_flat.specs.Kept.{KeptDevice}
use Rattle.gl_lifting.specs.Runs.{Run}
use Rattle.gl_lib.specs.Sources.{type_of_flat}

-- the names are among the nets
abbrev pub AreNets : List (List ℕ) → List (List ℕ) → Type 0
AreNets nets names = All (λ name. is_in name nets ≡ true) names

-- the type of a device is among those of a source
abbrev pub IsAmong : Source → Card → Type 0
IsAmong s d = list_any (same_type (type_in s d)) (types_of s) ≡ true

-- a run has the type of a card: that of a device is among the types of devices, and an X card finds the cell that it calls
abbrev pub HasType : Run → Body → Type 0
HasType run (dev_at line d) = IsAmong run.source d
HasType run (call_at line c) = FindsSub run.library.deck.subs (call_at line c)

-- a run has the type of a card, and the nets on it are among these
pub record IsNumbered (run : Run) (nets : List (List ℕ)) (card : Body) : Type 0 where
  pub kind : HasType run card
  pub nodes : AreNets nets (nodes_of card)

-- the type of a flat device is among the types
abbrev pub IsAmongTypes : (Card → TypeName) → List TypeName → KeptDevice → Type 0
IsAmongTypes type types d = list_any (same_type (type_of_flat type d)) types ≡ true
