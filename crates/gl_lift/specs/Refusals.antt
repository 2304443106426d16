-- What a refusal of the code means, and what lifting gives.
use Rattle.std.specs.Prelude.{◌≡◌, ℕ, List, Result, Ok, ⊤}
use Rattle.std.specs.Option.{option_map}
use Rattle.gl_fault.specs.Refusals.{IsRefusal}
use Rattle.gl_text.specs.Flattening.{Flat}
use Rattle.gl_base.specs.Libraries.{Library}
use Rattle.gl_lifting.specs.LiftJobs.{Texts}
use Rattle.gl_lift.specs.Lifting.{LiftCause, of_flat, of_keep}
use Rattle.gl_lift.specs.Counted.{AreCountedTexts, IsCountedLimit}
use Rattle.gl_flat.specs.Refusals as flats
use Rattle.gl_lib.specs.Kept.{unknown_of}
use Rattle.gl_limit.specs.Limits.{limit_value}
use Rattle.gl_lift.specs.declared.fault.LimitFault.{LimitFault}
use Rattle.gl_lift.specs.declared.fault.LimitFault.TheVariants as limits
use Rattle.gl_lift.specs.declared.fault.LiftFault.{LiftFault}
use Rattle.gl_lift.specs.declared.fault.LiftFault.TheVariants as faults

-- why rounds have no texts, as why nothing is written
abbrev pub of_limit_fault : LimitFault → LiftFault
of_limit_fault (limits.Passed limit) = faults.Limit limit
of_limit_fault limits.Memory = faults.Memory

-- why nothing is written where a flat deck is wanted: it is refused, or a limit is counted of its texts; want of memory may come in place of either
abbrev pub IsNotLifted : List (List ℕ) → Library → Result Flat LiftCause → LiftFault → Type 0
IsNotLifted keep library wanted (faults.Flat fault) = IsRefusal (option_map of_flat (flats.fault_of fault)) wanted
IsNotLifted keep library wanted (faults.Keep fault) = IsRefusal (option_map of_keep (unknown_of fault)) wanted
IsNotLifted keep library wanted (faults.Limit limit) = (flat : Flat) × (wanted ≡ Ok flat) × IsCountedLimit keep library flat (limit_value limit)
IsNotLifted keep library wanted faults.Memory = ⊤

-- the texts of the wanted flat deck, where no limit is counted of them
abbrev pub AreLifted : List (List ℕ) → Library → Result Flat LiftCause → Texts → Type 0
AreLifted keep library wanted texts = (flat : Flat) × (wanted ≡ Ok flat) × AreCountedTexts keep library flat texts
