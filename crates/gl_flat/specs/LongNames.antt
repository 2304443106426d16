-- Flat names that are too long.
use Rattle.gl_fault.specs.Refusals.{when}
use Rattle.std.specs.Prelude.{ℕ, ◌<◌, ◌^◌, List, length, nat_lt, Option}
use Rattle.std.specs.List.{AllByRecursion}
use Rattle.gl_text.specs.LogicalLines.{NAME, Fault, long_flat_name}
use Rattle.gl_text.specs.Flattening.{Bearer, bearer_name}

-- what refuses a length of a flat name
abbrev pub long_length : ℕ → Option Fault
long_length len = when (nat_lt NAME len) (long_flat_name len)

-- what refuses a flat name by its length
abbrev pub long_name : List ℕ → Option Fault
long_name name = long_length (length name)

-- a length that a count holds
abbrev pub IsCountable : List ℕ → Type 0
IsCountable name = length name < 2 ^ 32

abbrev pub AreCountable : List Bearer → Type 0
AreCountable bearers = AllByRecursion (λ b. IsCountable (bearer_name b)) bearers
