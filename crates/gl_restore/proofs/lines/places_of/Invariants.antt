use Rattle.std.proofs.Common.{◌≡◌, ℕ, List, drop}
use Rattle.indexmap.specs.IndexMap.{get}
use Rattle.gl_text.specs.LogicalLines.{same_text}
use Rattle.gl_restore.specs.Places.{first_named, new_name}
use Rattle.gl_restore.proofs.PlaceLaws.{settled}
use Rattle.gl_restore.proofs.lines.places_of.Given as goal

abbrev pub invariant-loop-line : goal.invariant-loop-line
invariant-loop-line l = record {
  found : (name : List ℕ) → settled new_name l.lines name (drop l.line-index l.lines) (get same_text l.places name) ≡ first_named new_name name l.lines;
  count : l.place ≡ l.line-index;
}
