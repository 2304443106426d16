-- Each element of a list once, in order of first appearance, by a test of which elements are the same, and the places of elements.
use Rattle.std.proofs.Common.{◌≡◌, ◌+◌, ◌<◌, ◌≤◌, ℕ, zero, suc, List, [], ◌∷◌, length, get_or, cond, true, false, Bool, None, Some, refl, sym, ap, ◌∙◌, subst, arith, inl, inr}
use Rattle.std.specs.Prelude.{not, Contains, filter, position}
use Rattle.std.specs.List.{list_any, position_or_len}
use Rattle.std.proofs.lemmas.Bool.{cases_Bool, not_from_false, not-true, lt-ltb, or_cases, false_from_ne_true, or_left, or_right}
use Rattle.std.proofs.lemmas.List.Quantifiers.{position-Some}
use Rattle.std.proofs.lemmas.List.Sums.{position_or_len_is}
use Rattle.std.proofs.lemmas.List.Sorted.{Contains-permutation, length_permutation}
use Rattle.std.proofs.lemmas.List.{get_or_default}
use Rattle.gl_lists.proofs.Membership.{in_head, in_tail, in_cons, in_none, in_filter, from_filter}
use Rattle.gl_lists.proofs.Once.{Once, split, once_filter}
use Rattle.gl_lists.proofs.Filters.{filter_shorter, filter_all}

-- the elements of a list in which each stands once differ by their places
pub once_apart : {A : Type 0} (xs : List A) (d : A) (i j : ℕ) → Once xs → i < j → j < length xs → get_or xs i d ≡ get_or xs j d → ⊥
once_apart [] d i j once lt below e = omega (arith, below)
once_apart (x ∷ xs) d i zero once lt below e = omega (arith, lt)
once_apart (x ∷ xs) d zero (suc j) once lt below e = once.0 (j, omega (arith, below), get_or_default xs j x d (omega (arith, below)) ∙ sym e)
once_apart (x ∷ xs) d (suc i) (suc j) once lt below e = once_apart xs d i j once.1 (omega (arith, lt)) (omega (arith, below)) e

-- elements that stand once are no more than those among which they stand
pub no_more : {A : Type 0} (xs ys : List A) → Once xs → Once ys → ((x : A) → Contains xs x → Contains ys x) → length xs ≤ length ys
no_more [] ys once_xs once_ys h = omega arith
no_more (x ∷ xs) ys once_xs once_ys h =
    let r = split ys x (h x (in_head x xs)) once_ys in
    let rest = no_more xs r.0 once_xs.1 r.2.1 (λ y g.
    elim (in_cons x r.0 y (Contains-permutation ys (x ∷ r.0) y r.1 (h y (in_tail x xs y g)))) [
      | inl same ↦ absurd (once_xs.0 (subst (λ z. Contains xs z) (sym same) g))
      | inr later ↦ later
    ]) in
    omega (arith, rest, length_permutation ys (x ∷ r.0) r.1)

module _ {A : Type 0} (same : A → A → Bool) where
  -- each once, in order of first appearance
  abbrev pub once_by : List A → List A
  once_by [] = []
  once_by (x ∷ xs) = x ∷ filter (λ y. not (same x y)) (once_by xs)

  pub length_once : (xs : List A) → length (once_by xs) ≤ length xs
  length_once [] = omega arith
  length_once (x ∷ xs) = omega (arith, filter_shorter (λ y. not (same x y)) (once_by xs), length_once xs)

  pub first_place : (y x : A) (xs : List A) → same y x ≡ true → position_or_len (same y) (x ∷ xs) ≡ 0
  first_place y x xs on = ap (λ (b : Bool). cond (not b) (1 + position_or_len (same y) xs) 0) on

  pub later_place : (y x : A) (xs : List A) → same y x ≡ false → position_or_len (same y) (x ∷ xs) ≡ 1 + position_or_len (same y) xs
  later_place y x xs off = ap (λ (b : Bool). cond (not b) (1 + position_or_len (same y) xs) 0) off

  -- what is found stands there
  pub from_once : (xs : List A) (y : A) → Contains (once_by xs) y → Contains xs y
  from_once [] y h = h
  from_once (x ∷ xs) y h =
      elim (in_cons x (filter (λ z. not (same x z)) (once_by xs)) y h) [
        | inl e ↦ (0, omega arith, e)
        | inr later ↦ in_tail x xs y (from_once xs y (from_filter (λ z. not (same x z)) (once_by xs) y later).0)
      ]

module _ {A : Type 0} (same : A → A → Bool) (exact : (x y : A) → same x y ≡ true → x ≡ y) (itself : (x : A) → same x x ≡ true) where
  pub same_if : (x y : A) → x ≡ y → same x y ≡ true
  same_if x y e = ap (same x) (sym e) ∙ itself x

  pub differ_if : (x y : A) → (x ≡ y → ⊥) → same x y ≡ false
  differ_if x y apart = false_from_ne_true (same x y) (λ t. apart (exact x y t))

  pub there : (xs : List A) (y : A) → list_any (same y) xs ≡ true → Contains xs y
  there [] y e = absurd cc
  there (x ∷ xs) y e =
      elim (or_cases (same y x) (list_any (same y) xs) e) [
        | inl here ↦ (0, omega arith, sym (exact y x here))
        | inr later ↦ in_tail x xs y (there xs y later)
      ]

  pub found : (xs : List A) (y : A) → Contains xs y → list_any (same y) xs ≡ true
  found [] y h = absurd (in_none y h)
  found (x ∷ xs) y h =
      elim (in_cons x xs y h) [
        | inl e ↦ or_left (same y x) (list_any (same y) xs) (same_if y x (sym e))
        | inr later ↦ or_right (same y x) (list_any (same y) xs) (found xs y later)
      ]

  pub in_once : (xs : List A) (y : A) → Contains xs y → Contains (once_by same xs) y
  in_once [] y h = h
  in_once (x ∷ xs) y h =
      elim (cases_Bool (same x y)) [
        | inl on ↦ (0, omega arith, exact x y on)
        | inr off ↦ elim (in_cons x xs y h) [
          | inl e ↦ let t : same x y ≡ true = same_if x y e in absurd cc
          | inr later ↦ in_tail x (filter (λ z. not (same x z)) (once_by same xs)) y (in_filter (λ z. not (same x z)) (once_by same xs) y (in_once xs y later) (not_from_false (same x y) off))
        ]
      ]

  pub once_once : (xs : List A) → Once (once_by same xs)
  once_once [] = tt
  once_once (x ∷ xs) = (
    (λ h. let r = (from_filter (λ y. not (same x y)) (once_by same xs) x h).1 in let off : same x x ≡ false = not-true (same x x) r in let on : same x x ≡ true = itself x in absurd cc),
    once_filter (λ y. not (same x y)) (once_by same xs) (once_once xs),
  )

  -- where each stands once, nothing is taken away
  pub once_kept : (xs : List A) → Once xs → once_by same xs ≡ xs
  once_kept [] once = refl
  once_kept (x ∷ xs) once =
      ap (λ ys. x ∷ filter (λ y. not (same x y)) ys) (once_kept xs once.1)
      ∙ ap (λ ys. x ∷ ys) (filter_all (λ y. not (same x y)) xs (λ y h. not_from_false (same x y) (differ_if x y (λ e. once.0 (subst (λ z. Contains xs z) (sym e) h)))))

  -- the place of an element leads back to it
  pub place_within : (xs : List A) (y : A) → Contains xs y → position_or_len (same y) xs < length xs
  place_within [] y h = absurd (in_none y h)
  place_within (x ∷ xs) y h =
      elim (cases_Bool (same y x)) [
        | inl on ↦ let e = first_place same y x xs on in omega (arith, e)
        | inr off ↦ let e = later_place same y x xs off in elim (in_cons x xs y h) [
          | inl here ↦ let t : same y x ≡ true = same_if y x (sym here) in absurd cc
          | inr later ↦ let lt = place_within xs y later in omega (arith, e, lt)
        ]
      ]

  pub place_back : (xs : List A) (y d : A) → Contains xs y → get_or xs (position_or_len (same y) xs) d ≡ y
  place_back [] y d h = absurd (in_none y h)
  place_back (x ∷ xs) y d h =
      elim (cases_Bool (same y x)) [
        | inl on ↦ ap (λ k. get_or (x ∷ xs) k d) (first_place same y x xs on) ∙ sym (exact y x on)
        | inr off ↦ elim (in_cons x xs y h) [
          | inl here ↦ let t : same y x ≡ true = same_if y x (sym here) in absurd cc
          | inr later ↦
              let next : position_or_len (same y) (x ∷ xs) ≡ suc (position_or_len (same y) xs) = omega (arith, later_place same y x xs off) in
              ap (λ k. get_or (x ∷ xs) k d) next ∙ place_back xs y d later
        ]
      ]

  -- where each stands once, a place is that of its element
  pub place_at : (xs : List A) (i : ℕ) (d : A) → Once xs → i < length xs → position_or_len (same (get_or xs i d)) xs ≡ i
  place_at xs i d once lt =
      position_or_len_is (same (get_or xs i d)) xs i d (omega (arith, lt))
      (λ k below. differ_if (get_or xs i d) (get_or xs k d) (λ e. once_apart xs d k i once below lt (sym e)))
      (λ within. itself (get_or xs i d))

  pub position_there : (xs : List A) (y : A) → Contains xs y → position (same y) xs ≡ Some (position_or_len (same y) xs)
  position_there xs y h = ap (λ (b : Bool). cond b (Some (position_or_len (same y) xs)) None) (lt-ltb (position_or_len (same y) xs) (length xs) (place_within xs y h))

  pub position_back : (xs : List A) (y d : A) (i : ℕ) → position (same y) xs ≡ Some i → (i < length xs) × (get_or xs i d ≡ y)
  position_back xs y d i e = let r = position-Some (same y) xs i d e in (r.0, sym (exact y (get_or xs i d) r.1))
