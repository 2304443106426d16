use Rattle.std.proofs.Common.{◌≡◌, List}
use Rattle.gl_text.specs.Decks.{Sub}
use Rattle.gl_cells.specs.Outlines.{marks_through, outlines_of}
use Rattle.gl_cells.proofs.skips.marks.Given as goal

abbrev pub invariant-loop-calls : goal.invariant-loop-calls
invariant-loop-calls l = (subs : List Sub) → l.cells ≡ outlines_of subs → l.marks.items ≡ marks_through subs l.calls
