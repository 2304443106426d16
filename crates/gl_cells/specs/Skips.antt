-- What is said of a cell, as the definition of libraries has it.
use Rattle.gl_base.specs.Libraries as libraries
use Rattle.gl_cells.specs.declared.skip.Skip.{Skip}
use Rattle.gl_cells.specs.declared.skip.Skip.TheVariants as skips

-- why a cell is skipped
abbrev pub skip_value : Skip → libraries.Skip
skip_value skips.Empty = libraries.empty
skip_value (skips.Loose port) = libraries.loose port
skip_value (skips.Uses cell) = libraries.uses cell
