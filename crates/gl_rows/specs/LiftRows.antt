-- What is lifted of the files of a deck and a library: what rows say of it.
use Rattle.std.specs.Prelude.{◌≡◌, ℕ, List, [], None, Some, Ok}
use Rattle.gl_text.specs.Flattening.{Flat}
use Rattle.gl_base.specs.Libraries.{Library}
use Rattle.gl_base.specs.Stems.{names_in, stem_of}
use Rattle.gl_lifting.specs.Runs.{run_of}
use Rattle.gl_lifting.specs.Histories.{History}
use Rattle.gl_lifting.specs.Lifted.{Options}
use Rattle.gl_lifting.specs.LiftJobs.{lift_job}
use Rattle.gl_lifting.specs.Chain.{LiftedIsFlat, RenamedIsOriginal}
use Rattle.gl_lifting.specs.TriedHistories.{tried_history}

-- no top, and no name is kept
abbrev pub no_options : Options
no_options = record { top = None; keep = [] }

-- a top, and no name is kept
abbrev pub with_top : List ℕ → Options
with_top name = record { top = Some name; keep = [] }

-- of a deck and a library, these are the lifted deck, the map and the report
abbrev pub Lifts : Options → List ℕ → List ℕ → List ℕ → List ℕ → List ℕ → Type 0
Lifts o deck library lifted map report = lift_job o deck library ≡ Ok (record { lifted = lifted; map = map; report = report })

-- the history that is computed
abbrev pub history_of : Flat → Library → History
history_of f l = tried_history (run_of f l [])

-- the lifted deck flattens as it is said to, and renamed under its map it is the original
abbrev pub IsLinked : Flat → Library → Type 0
IsLinked f l = LiftedIsFlat no_options f (run_of f l []) (history_of f l) (stem_of (names_in f))
    × RenamedIsOriginal f (run_of f l []) (history_of f l) (stem_of (names_in f))
