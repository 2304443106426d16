-- The flat deck and the library that a run's levels are made from, and the tables in which their names are looked up. This project's own.
use Rattle.std.specs.Prelude.{◌≡◌, ◌++◌, ℕ, List}
use Rattle.indexmap.specs.IndexMap.{get}
use Rattle.gl_text.specs.LogicalLines.{same_text}
use Rattle.gl_base.specs.Rails.{all_rails}
use Rattle.gl_base.specs.TypeNames.{word_of}
use Rattle.gl_base.specs.BaseCircuit.{Source, types_of}
use Rattle.gl_base.specs.Rounds as rounds
use Rattle.gl_lifting.specs.Runs.{Run}
use Rattle.gl_lib.specs.declared.parts.Parts.{Parts}
use Rattle.gl_lib.specs.declared.tables.Tables.{Tables}
use Rattle.gl_lib.specs.Sources.{AreSound}

-- what the parts give
abbrev pub source_of : Parts → Source
source_of p = rounds.source_of p.flat.now p.library.now

-- the run of the parts, before names are kept: these change no type and no pattern
abbrev pub run_in : Parts → Run
run_in p = record { source = source_of p; library = p.library.now }

-- circuit and cells of the parts are not refused
abbrev pub ArePartsSound : Parts → Type 0
ArePartsSound p = AreSound p.flat.now p.library.now

-- the tables hold the type words of the models, the types of devices and the rails of a source
pub record AreTablesOf (s : Source) (tables : Tables) : Type 0 where
  pub words_are : (name : List ℕ) → get same_text tables.words name ≡ word_of (s.deck_models ++ s.library_models) name
  pub kinds_are : tables.kinds ≡ types_of s
  pub rails_are : tables.rails ≡ all_rails s.rails
