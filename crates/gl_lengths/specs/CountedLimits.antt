-- That a limit of what is lifted is known before the flattened lifted deck is made. This project's own.
use Rattle.std.specs.Prelude.{◌≡◌, ℕ, List, length}
use Rattle.gl_text.specs.Flattening.{Flat}
use Rattle.gl_lifting.specs.Runs.{Run}
use Rattle.gl_lifting.specs.Histories.{History}
use Rattle.gl_lifting.specs.LiftedDecks.{lifted_deck}
use Rattle.gl_lifting.specs.NameMaps.{map_of, map_text}
use Rattle.gl_lifting.specs.OutLimits.{limits, out_limit}
use Rattle.gl_lifting.specs.Counting.{counted_limit}

-- with every report, the first limit that is passed is the one that is counted
abbrev pub HasCountedLimit : Flat → Run → History → List ℕ → Type 0
HasCountedLimit flat run h stem = (report : List ℕ) → let deck = lifted_deck stem flat run.source h in let m = map_of stem flat run.source h in out_limit limits flat.top deck (map_text m) report ≡ counted_limit limits flat deck m (length h.last.composites) report
