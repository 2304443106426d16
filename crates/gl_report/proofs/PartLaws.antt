-- Parts, where nothing is left of names or images; and the name of a device.
use Rattle.std.proofs.Common.{◌≡◌, ℕ, ◌<◌, ◌⊎◌, List, [], ◌∷◌, length, get_or, refl, sym, ap, ◌∙◌, arith, map, inl, inr}
use Rattle.std.proofs.lemmas.List.{length-map, get_or-map}
use Rattle.gl_base.specs.Reports.{name_at, parts}
use Rattle.gl_base.specs.RoundReports.{card_name}
use Rattle.gl_deck.specs.declared.body.Body.{Body}
use Rattle.gl_deck.specs.Bodies.{bodies_value}
use Rattle.gl_lifting.specs.Replacement.{Origin}
use Rattle.gl_history.specs.Plain.{origin_value}
use Rattle.gl_history.specs.declared.origin.Origin as declared

-- no parts are left of no names, or of no images
pub no_parts : {B : Type 0} (g : B → List ℕ) (names : List (List ℕ)) (ys : List B) → (names ≡ []) ⊎ (ys ≡ []) → parts names (map g ys) ≡ []
no_parts g names ys (inl e) = ap (λ (ns : List (List ℕ)). parts ns (map g ys)) e
no_parts g [] ys (inr e) = refl
no_parts {B} g (name ∷ names) ys (inr e) = ap (λ (zs : List B). parts (name ∷ names) (map g zs)) e

-- nor of no cards
pub no_images : {B : Type 0} (g : B → List ℕ) (cards : List Body) (ys : List B) → (cards ≡ []) ⊎ (ys ≡ []) → parts (map card_name (bodies_value cards)) (map g ys) ≡ []
no_images g cards ys (inl e) = ap (λ (cs : List Body). parts (map card_name (bodies_value cs)) (map g ys)) e
no_images g cards ys (inr e) = no_parts g (map card_name (bodies_value cards)) ys (inr e)

-- the name of a device, by where it comes from
pub origin_named : (f : Origin → List ℕ) (os : List declared.Origin) (i : ℕ) (o : declared.Origin) → i < length os → o ≡ get_or os i o → f (origin_value o) ≡ name_at (map f (map origin_value os)) i
origin_named f os i o lt is =
    let within : i < length (map origin_value os) = omega (arith, length-map os origin_value, lt) in
    ap (λ (x : declared.Origin). f (origin_value x)) is ∙ (sym (ap f (get_or-map origin_value os i o (origin_value o) lt)) ∙ sym (get_or-map f (map origin_value os) i (origin_value o) [] within))
