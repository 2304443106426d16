-- The nets of names that pin nets.
use Rattle.std.proofs.Common.{◌≡◌, ℕ, List, [], ◌∷◌, length, get_or, Option, None, Some, refl, ap, ◌∙◌, inl, inr}
use Rattle.std.specs.Prelude.{Contains, filter_map, position}
use Rattle.std.specs.List.{cons_option}
use Rattle.std.proofs.lemmas.Bool.{not_from_true, lt-ltb}
use Rattle.std.proofs.lemmas.List.Elements.{Contains-get_or}
use Rattle.gl_match.proofs.Lists.{in_cons, in_none}
use Rattle.gl_text.specs.LogicalLines.{same_text}
use Rattle.gl_graph.specs.declared.fault.BuildFault.TheVariants.{BadPin}
use Rattle.gl_graph.specs.Faults.{first_in, pin_fault}
use Rattle.gl_base.proofs.OnceLaws.{position_back}
use Rattle.gl_base.proofs.TextLaws as text
use Rattle.gl_lib.proofs.FaultLaws.{no_fault, none_from_start}

-- what is kept comes from an item
from_filter_map : {X Y : Type 0} (f : X → Option Y) (xs : List X) (y : Y) → Contains (filter_map f xs) y → (x : X) × (f x ≡ Some y)
from_filter_map f [] y h = absurd (in_none y h)
from_filter_map {X} {Y} f (x ∷ xs) y h = go (f x) refl h (from_filter_map f xs y) where
  go : (o : Option Y) → f x ≡ o → Contains (cons_option o (filter_map f xs)) y → (Contains (filter_map f xs) y → (x : X) × (f x ≡ Some y)) → (x : X) × (f x ≡ Some y)
  go None e g rest = rest g
  go (Some z) e g rest =
      elim (in_cons z (filter_map f xs) y g) [
        | inl same ↦ (x, e ∙ ap Some same)
        | inr later ↦ rest later
      ]

-- the nets of names have no fault as pinned nets
pub pins_sound : (nets names : List (List ℕ)) → first_in (pin_fault (length nets)) 0 (filter_map (λ name. position (same_text name) nets) names) ≡ None
pins_sound nets names =
    let find : List ℕ → Option ℕ = λ name. position (same_text name) nets in
    let pins = filter_map find names in
    none_from_start (pin_fault (length nets)) pins (λ k d lt.
    let pin = get_or pins k d in
    let from = from_filter_map find names pin (Contains-get_or pins k d lt) in
    let within = position_back same_text text.exact text.itself nets from.0 [] pin from.1 in
    no_fault _ (BadPin k) (not_from_true _ (lt-ltb pin (length nets) within.0)))
