-- The names that a report prints. This project's own.
use Rattle.std.specs.Prelude.{ℕ, List, map}
use Rattle.gl_base.specs.RoundReports.{RunNames}
use Rattle.gl_lifting.specs.Replacement.{Origin}
use Rattle.gl_lifting.specs.HistoryReports.{origin_name}

-- the stem with the names of nets, and the names of a circuit's devices, by their numbers
pub record RoundNames : Type 0 where
  pub run : RunNames
  pub devices : List (List ℕ)

-- the names of a later circuit's devices, by where they come from
abbrev pub names_by : RoundNames → List Origin → List (List ℕ)
names_by names origins = map (origin_name names.run.stem names.devices) origins
