-- What it means that a kept name is unknown, or none is, of the flat deck that is lifted.
use Rattle.std.proofs.Common.{◌≡◌, ℕ, List, Option, None, Some, ap, ◌∙◌}
use Rattle.std.specs.Prelude.{Result, Ok}
use Rattle.std.specs.Option.{option_map}
use Rattle.gl_fault.specs.Refusals.{IsRefusal, IsFound, or_else}
use Rattle.gl_text.specs.LogicalLines.{Fault}
use Rattle.gl_text.specs.Flattening.{Flat}
use Rattle.gl_base.specs.Libraries.{Library}
use Rattle.gl_base.specs.Rounds.{source_of}
use Rattle.gl_base.specs.Keeping.{unknown_keep}
use Rattle.gl_lift.specs.Lifting.{of_flat, of_keep, unless_unknown}

-- no flat deck
pub flat_refused : (keep : List (List ℕ)) (library : Library) (given : Option Fault) (wanted : Result Flat Fault) → IsRefusal given wanted → IsRefusal (option_map of_flat given) (unless_unknown keep library wanted)
flat_refused keep library None wanted h = tt
flat_refused keep library (Some fault) wanted h = ap (unless_unknown keep library) h

-- a flat deck, and all names are known
pub flat_known : (keep : List (List ℕ)) (library : Library) (flat : Flat) (wanted : Result Flat Fault) → wanted ≡ Ok flat → unknown_keep keep (source_of flat library) ≡ None → unless_unknown keep library wanted ≡ Ok flat
flat_known keep library flat wanted is known = ap (unless_unknown keep library) is ∙ ap (λ (u : Option (List ℕ)). or_else (option_map of_keep u) flat) known

-- a flat deck, and a name is unknown
pub keep_refused : (keep : List (List ℕ)) (library : Library) (flat : Flat) (wanted : Result Flat Fault) (given : Option (List ℕ)) → wanted ≡ Ok flat → IsFound given (unknown_keep keep (source_of flat library)) → IsRefusal (option_map of_keep given) (unless_unknown keep library wanted)
keep_refused keep library flat wanted None is h = tt
keep_refused keep library flat wanted (Some name) is h = ap (unless_unknown keep library) is ∙ ap (λ (u : Option (List ℕ)). or_else (option_map of_keep u) flat) h
