-- Cells that can be searched in a circuit. This project's own.
use Rattle.std.specs.Prelude.{◌≡◌, ℕ, ◌<◌, length, Option, Some, None}
use Rattle.gl_match.specs.Graph.{Circuit, Pattern, FitsInto, shape_at}
use Rattle.gl_match.specs.Cells.{Cell}
use Rattle.gl_graph.specs.Built.{IsBuiltPattern}

-- the pattern is one that was built, fits into a circuit, and has as many ports as the type has places
pub record HasPorts (c : Circuit) (kind : ℕ) (p : Pattern) : Type 0 where
  pub built : IsBuiltPattern p
  pub fits : FitsInto c p
  pub ports : length p.ports ≡ length (shape_at c kind)

-- the pattern of a cell has ports for the cell's type, if it is there
abbrev pub FitsIfAny : Circuit → ℕ → Option Pattern → Type 0
FitsIfAny c kind None = Unit {0}
FitsIfAny c kind (Some pattern) = HasPorts c kind pattern

-- a cell can be searched in a circuit: its type is one of the circuit's, and its pattern has a port for each place of the type
pub record IsForCircuit (c : Circuit) (cell : Cell) : Type 0 where
  pub kind : cell.kind < length c.shapes
  pub pattern : FitsIfAny c cell.kind cell.pattern
