-- The text of a flat deck, unless it is longer than a file may be.
use Rattle.std.specs.Prelude.{◌≡◌, ℕ, List, Option, Some, None, Result}
use Rattle.std.specs.declared.alloc.Global.{Global}
use Rattle.std.specs.declared.vec.Vec.{Vec}
use Rattle.gl_fault.specs.Refusals as answers
use Rattle.gl_fault.specs.Refusals.{or_else}
use Rattle.gl_text.specs.Flattening.{Flat, flat_text}
use Rattle.gl_lifting.specs.OutLimits.{OutLimit, of_restored_text, limits, restored_limit}
use Rattle.gl_restore.specs.declared.too_long.TextFault.{TextFault}
use Rattle.gl_restore.specs.declared.too_long.TextFault.TheVariants as faults

-- the text, or the limit that it passes
abbrev pub text_within : Flat → Result (List ℕ) OutLimit
text_within f = or_else (restored_limit limits f) (flat_text f)

-- the limit, or nothing for want of memory
abbrev pub limit_of : TextFault → Option OutLimit
limit_of faults.RestoredText = Some of_restored_text
limit_of faults.Memory = None

-- the text, exactly where there is one; else the limit that it passes; want of memory may come in place of either
abbrev pub GivesText : Result (Vec ℕ Global) TextFault → Result (List ℕ) OutLimit → Type 0
GivesText = answers.GivesAs limit_of (λ v. v.items)
