-- An equal sign where none may stand.
use Rattle.std.specs.Prelude.{ℕ, ◌==◌, List, Option}
use Rattle.std.specs.List.{list_any}
use Rattle.gl_text.specs.LogicalLines.{Fault, parameters}
use Rattle.gl_fault.specs.Refusals.{when}

-- the text has an equal sign
abbrev pub equal_sign : ℕ → List ℕ → Option Fault
equal_sign line text = when (list_any (λ b. b == 61) text) (parameters line)
