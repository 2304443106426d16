-- The cells of a library as they are searched in a run. This project's own.
use Rattle.std.specs.Prelude.{◌≡◌, List, length, map, zip, Option, Some, None}
use Rattle.gl_match.specs.Cells.{Cell}
use Rattle.gl_match.specs.Graph.{Pattern}
use Rattle.gl_text.specs.Decks.{Sub}
use Rattle.gl_base.specs.Libraries as libraries
use Rattle.gl_base.specs.BaseCircuit.{type_number}
use Rattle.gl_lifting.specs.Runs.{Run, run_types, cell_type, pattern_in}

-- the pattern of a cell of a run, unless it is skipped
abbrev pub pattern_unless : Run → Sub → Option libraries.Skip → Option Pattern
pattern_unless run cell None = Some (pattern_in run cell)
pattern_unless run cell (Some skip) = None

-- a cell of a run as it is searched
abbrev pub cell_in : Run → Sub × libraries.Cell → Cell
cell_in run c = record { pattern = pattern_unless run c.0 c.1.skip; level = c.1.level; kind = type_number (run_types run) (cell_type c.0) }

-- these are the cells of a run's library, in order
pub record AreCells (run : Run) (cells : List Cell) : Type 0 where
  pub as_many : length run.library.cells ≡ length run.library.deck.subs
  pub each : cells ≡ map (cell_in run) (zip run.library.deck.subs run.library.cells)
