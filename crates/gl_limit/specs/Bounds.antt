-- What a fault of writing tells of a text. This project's own.
use Rattle.std.specs.Prelude.{◌<◌, ℕ, List, length, Option, Some, None, nat_lt, if◌then◌else◌, ⊤}
use Rattle.gl_text.specs.LogicalLines.{FILE}
use Rattle.gl_limit.specs.declared.fault.WriteFault.{WriteFault}
use Rattle.gl_limit.specs.declared.fault.WriteFault.TheVariants as faults

-- the text is longer than a file may be; want of memory tells nothing
abbrev pub Tells : WriteFault → List ℕ → Type 0
Tells faults.TooLong text = FILE < length text
Tells faults.Memory text = ⊤

-- a text that is no longer than a file may be, else none
abbrev pub text_if_short : List ℕ → Option (List ℕ)
text_if_short text = if nat_lt FILE (length text) then None else Some text
