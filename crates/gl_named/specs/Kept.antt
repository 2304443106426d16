-- What the tables of the walk hold.
use Rattle.gl_named.specs.declared.renames.Renames.{Renames}
use Rattle.gl_named.specs.Firsts.{Holds}
use Rattle.gl_named.specs.Walks.{Rows}

-- each table has what the rows have, each number's first
pub record Keeps (names : Renames) (rows : Rows) : Type 0 where
  pub ways : Holds names.ways.items rows.ways
  pub devices : Holds names.devices.items rows.devices
  pub nets : Holds names.nets.items rows.nets
