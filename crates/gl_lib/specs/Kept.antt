-- What a refusal of kept names means. This project's own.
use Rattle.std.specs.Prelude.{ℕ, List, Option, Some, None}
use Rattle.gl_lib.specs.declared.fault.KeepFault.{KeepFault}
use Rattle.gl_lib.specs.declared.fault.KeepFault.TheVariants.{UnknownKeep, Memory}

-- the name that a refusal tells, or nothing for want of memory
abbrev pub unknown_of : KeepFault → Option (List ℕ)
unknown_of (UnknownKeep name) = Some name
unknown_of Memory = None
