-- What stands in a list: `Contains`, by what the list is made of.
use Rattle.std.proofs.Common.{◌≡◌, ◌+◌, ◌<◌, ℕ, zero, suc, List, [], ◌∷◌, length, get_or, map, cond, true, Bool, refl, sym, ap, ◌∙◌, subst, arith, inl, inr}
use Rattle.std.specs.Prelude.{Contains, ◌⊎◌, filter}
use Rattle.std.specs.List.{list_any, flat_map, range_with_len, enumerate_from}
use Rattle.std.proofs.lemmas.Bool.{cases_Bool, or_cases, or_left, or_right}
use Rattle.std.proofs.lemmas.List.Elements.{Contains-append_left, Contains-append_right, Contains-append_cases}
use Rattle.std.proofs.lemmas.List.FromFn.{length-range_with_len, get_or-range_with_len}

pub in_head : {X : Type 0} (x : X) (xs : List X) → Contains (x ∷ xs) x
in_head x xs = (0, omega arith, refl)

pub in_tail : {X : Type 0} (y : X) (xs : List X) (x : X) → Contains xs x → Contains (y ∷ xs) x
in_tail y xs x h = (suc h.0, omega (arith, h.1), h.2)

pub in_cons : {X : Type 0} (y : X) (xs : List X) (x : X) → Contains (y ∷ xs) x → (y ≡ x) ⊎ Contains xs x
in_cons y xs x (zero, lt, e) = inl e
in_cons y xs x (suc k, lt, e) = inr (k, omega (arith, lt), e)

pub in_none : {X : Type 0} (x : X) → Contains [] x → ⊥
in_none x h = omega (arith, h.1)

pub in_map : {X Y : Type 0} (f : X → Y) (xs : List X) (x : X) → Contains xs x → Contains (map f xs) (f x)
in_map f [] x h = absurd (in_none x h)
in_map f (y ∷ ys) x (zero, lt, e) = (0, omega arith, ap f e)
in_map f (y ∷ ys) x (suc k, lt, e) = in_tail (f y) (map f ys) (f x) (in_map f ys x (k, omega (arith, lt), e))

pub from_map : {X Y : Type 0} (f : X → Y) (xs : List X) (y : Y) → Contains (map f xs) y → (x : X) × Contains xs x × (f x ≡ y)
from_map f [] y h = absurd (in_none y h)
from_map f (x ∷ xs) y (zero, lt, e) = (x, in_head x xs, e)
from_map f (x ∷ xs) y (suc k, lt, e) = let r = from_map f xs y (k, omega (arith, lt), e) in (r.0, in_tail x xs r.0 r.1, r.2)

pub in_flat_map : {X Y : Type 0} (f : X → List Y) (xs : List X) (x : X) (y : Y) → Contains xs x → Contains (f x) y → Contains (flat_map f xs) y
in_flat_map f [] x y h g = absurd (in_none x h)
in_flat_map f (z ∷ zs) x y (zero, lt, e) g = Contains-append_left (f z) (flat_map f zs) y (subst (λ w. Contains (f w) y) (sym e) g)
in_flat_map f (z ∷ zs) x y (suc k, lt, e) g = Contains-append_right (f z) (flat_map f zs) y (in_flat_map f zs x y (k, omega (arith, lt), e) g)

pub from_flat_map : {X Y : Type 0} (f : X → List Y) (xs : List X) (y : Y) → Contains (flat_map f xs) y → (x : X) × Contains xs x × Contains (f x) y
from_flat_map f [] y h = absurd (in_none y h)
from_flat_map f (z ∷ zs) y h =
    elim (Contains-append_cases (f z) (flat_map f zs) y h) [
      | inl first ↦ (z, in_head z zs, first)
      | inr later ↦ let r = from_flat_map f zs y later in (r.0, in_tail z zs r.0 r.1, r.2)
    ]

pub in_filter : {X : Type 0} (p : X → Bool) (xs : List X) (x : X) → Contains xs x → p x ≡ true → Contains (filter p xs) x
in_filter p [] x h t = absurd (in_none x h)
in_filter p (y ∷ ys) x h t =
    elim (cases_Bool (p y)) [
      | inl on ↦ subst (λ (b : Bool). Contains (cond b (y ∷ filter p ys) (filter p ys)) x) (sym on) (elim (in_cons y ys x h) [
        | inl same ↦ (0, omega arith, same)
        | inr later ↦ in_tail y (filter p ys) x (in_filter p ys x later t)
      ])
      | inr off ↦ subst (λ (b : Bool). Contains (cond b (y ∷ filter p ys) (filter p ys)) x) (sym off) (elim (in_cons y ys x h) [
        | inl same ↦ let e : p y ≡ true = ap p same ∙ t in absurd cc
        | inr later ↦ in_filter p ys x later t
      ])
    ]

pub from_filter : {X : Type 0} (p : X → Bool) (xs : List X) (x : X) → Contains (filter p xs) x → Contains xs x × (p x ≡ true)
from_filter p [] x h = absurd (in_none x h)
from_filter p (y ∷ ys) x h =
    elim (cases_Bool (p y)) [
      | inl on ↦ elim (in_cons y (filter p ys) x (subst (λ (b : Bool). Contains (cond b (y ∷ filter p ys) (filter p ys)) x) on h)) [
        | inl same ↦ ((0, omega arith, same), ap p (sym same) ∙ on)
        | inr later ↦ let r = from_filter p ys x later in (in_tail y ys x r.0, r.1)
      ]
      | inr off ↦ let r = from_filter p ys x (subst (λ (b : Bool). Contains (cond b (y ∷ filter p ys) (filter p ys)) x) off h) in (in_tail y ys x r.0, r.1)
    ]

pub in_enumerate : {X : Type 0} (a : ℕ) (xs : List X) (i : ℕ) (d : X) → i < length xs → Contains (enumerate_from a xs) (a + i, get_or xs i d)
in_enumerate a [] i d lt = absurd (omega (arith, lt))
in_enumerate {X} a (x ∷ xs) zero d lt = (0, omega arith, ap (λ (k : ℕ). (k, x)) (omega arith))
in_enumerate {X} a (x ∷ xs) (suc i) d lt = subst (λ (k : ℕ). Contains ((a, x) ∷ enumerate_from (a + 1) xs) (k, get_or xs i d)) (omega arith) (in_tail (a, x) (enumerate_from (a + 1) xs) (a + 1 + i, get_or xs i d) (in_enumerate (a + 1) xs i d (omega (arith, lt))))

pub from_enumerate : {X : Type 0} (a : ℕ) (xs : List X) (y : ℕ × X) → Contains (enumerate_from a xs) y → (i : ℕ) × (i < length xs) × (y.0 ≡ a + i) × ((d : X) → y.1 ≡ get_or xs i d)
from_enumerate a [] y h = absurd (in_none y h)
from_enumerate {X} a (x ∷ xs) y h =
    elim (in_cons (a, x) (enumerate_from (a + 1) xs) y h) [
      | inl same ↦ let e : a ≡ y.0 = ap (λ (z : ℕ × X). z.0) same in (0, omega arith, omega arith, λ d. sym (ap (λ (z : ℕ × X). z.1) same))
      | inr later ↦ let r = from_enumerate (a + 1) xs y later in (suc r.0, omega (arith, r.1), omega (arith, r.2), r.3)
    ]

-- ---- numbers from 0 on

pub in_range : (n k : ℕ) → k < n → Contains (range_with_len 0 n) k
in_range n k lt = (k, omega (arith, length-range_with_len 0 n), get_or-range_with_len 0 n k k lt ∙ omega arith)

pub from_range : (n k : ℕ) → Contains (range_with_len 0 n) k → k < n
from_range n k h =
    let lt : h.0 < n = omega (arith, h.1, length-range_with_len 0 n) in
    omega (arith, lt, h.2, get_or-range_with_len 0 n h.0 k lt)

-- ---- a test that some element passes

pub from_any : {X : Type 0} (p : X → Bool) (xs : List X) → list_any p xs ≡ true → (x : X) × Contains xs x × (p x ≡ true)
from_any p [] t = absurd cc
from_any p (y ∷ ys) t =
    elim (or_cases (p y) (list_any p ys) t) [
      | inl on ↦ (y, in_head y ys, on)
      | inr later ↦ let r = from_any p ys later in (r.0, in_tail y ys r.0 r.1, r.2)
    ]

pub in_any : {X : Type 0} (p : X → Bool) (xs : List X) (x : X) → Contains xs x → p x ≡ true → list_any p xs ≡ true
in_any p [] x h t = absurd (in_none x h)
in_any p (y ∷ ys) x h t =
    elim (in_cons y ys x h) [
      | inl same ↦ or_left (p y) (list_any p ys) (ap p same ∙ t)
      | inr later ↦ or_right (p y) (list_any p ys) (in_any p ys x later t)
    ]
