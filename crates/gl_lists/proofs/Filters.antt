-- What a filter keeps.
use Rattle.std.proofs.Common.{◌≡◌, ◌≤◌, List, [], ◌∷◌, length, cond, true, Bool, refl, sym, ap, ◌∙◌, subst, arith, inl, inr}
use Rattle.std.specs.Prelude.{Contains, filter, filter_map, Option, Some, None}
use Rattle.std.specs.List.{cons_option}
use Rattle.std.proofs.lemmas.Bool.{cases_Bool}
use Rattle.gl_lists.proofs.Membership.{in_head, in_tail, in_cons, in_none}

-- a filter keeps no more than there was
pub filter_shorter : {A : Type 0} (p : A → Bool) (xs : List A) → length (filter p xs) ≤ length xs
filter_shorter p [] = omega arith
filter_shorter {A} p (x ∷ xs) =
    elim (cases_Bool (p x)) [
      | inl on ↦ subst (λ (b : Bool). length (cond b (x ∷ filter p xs) (filter p xs)) ≤ length (x ∷ xs)) (sym on) (omega (arith, filter_shorter p xs))
      | inr off ↦ subst (λ (b : Bool). length (cond b (x ∷ filter p xs) (filter p xs)) ≤ length (x ∷ xs)) (sym off) (omega (arith, filter_shorter p xs))
    ]

-- a filter that passes all
pub filter_all : {A : Type 0} (p : A → Bool) (xs : List A) → ((x : A) → Contains xs x → p x ≡ true) → filter p xs ≡ xs
filter_all p [] h = refl
filter_all {A} p (x ∷ xs) h =
    ap (λ (b : Bool). cond b (x ∷ filter p xs) (filter p xs)) (h x (in_head x xs))
    ∙ ap (λ ys. x ∷ ys) (filter_all p xs (λ y there. h y (in_tail x xs y there)))

-- what a filtering map gives comes from an item
pub from_filter_map : {X Y : Type 0} (f : X → Option Y) (xs : List X) (y : Y) → Contains (filter_map f xs) y → (x : X) × (f x ≡ Some y)
from_filter_map f [] y h = absurd (in_none y h)
from_filter_map {X} {Y} f (x ∷ xs) y h = go (f x) refl h (from_filter_map f xs y) where
  go : (o : Option Y) → f x ≡ o → Contains (cons_option o (filter_map f xs)) y → (Contains (filter_map f xs) y → (x : X) × (f x ≡ Some y)) → (x : X) × (f x ≡ Some y)
  go None e g rest = rest g
  go (Some z) e g rest = elim (in_cons z (filter_map f xs) y g) [ inl same ↦ (x, e ∙ ap Some same) | inr later ↦ rest later ]
