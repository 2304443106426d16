use Rattle.std.proofs.Common.{◌≡◌, ◌≤◌, ℕ, List}
use Rattle.std.specs.Prelude.{slice_index}
use Rattle.gl_text.specs.Decks.{Sub}
use Rattle.gl_cells.specs.Outlines.{levels_through, outlines_of}
use Rattle.gl_cells.proofs.levels.levels.Given as goal

abbrev pub invariant-loop-calls : goal.invariant-loop-calls
invariant-loop-calls l = record {
  low : (place : ℕ) → slice_index l.levels.items place ≤ l.calls;
  through : (subs : List Sub) → l.cells ≡ outlines_of subs → l.levels.items ≡ levels_through subs l.calls;
}
