use Rattle.std.proofs.Common.{◌≡◌, ℕ, List, map, take}
use Rattle.gl_text.specs.Decks.{Sub}
use Rattle.gl_named.specs.Kept.{Keeps}
use Rattle.gl_named.specs.Walks.{plan_of, rows_of}
use Rattle.gl_named.proofs.renames.renames_of.Given as goal

abbrev pub invariant-loop-item : goal.invariant-loop-item
invariant-loop-item l = (rails : List (List ℕ)) (subs : List Sub) → l.plans ≡ map (plan_of rails) subs → Keeps l.names (rows_of l.stem rails subs (take l.item-index l.found))
