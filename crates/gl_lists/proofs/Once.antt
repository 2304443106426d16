-- Lists in which each element stands once.
use Rattle.std.proofs.Common.{◌≡◌, ◌+◌, ◌<◌, ℕ, zero, suc, List, [], ◌∷◌, ◌++◌, length, get_or, map, cond, Bool, refl, sym, ap, subst, arith, inl, inr}
use Rattle.std.specs.Prelude.{Contains, IsPermutation, filter}
use Rattle.std.specs.List.{range_with_len}
use Rattle.std.proofs.lemmas.Bool.{cases_Bool}
use Rattle.std.proofs.lemmas.List.Elements.{Contains-append_cases, Contains-get_or}
use Rattle.std.proofs.lemmas.List.Sorted.{IsPermutation-refl, IsPermutation-sym, IsPermutation-cons, IsPermutation-trans, IsPermutation-middle, Contains-permutation}
use Rattle.gl_lists.proofs.Membership.{in_head, in_tail, in_cons, in_none, from_map, from_filter}

-- each element stands once
abbrev pub Once : {X : Type 0} → List X → Type 0
Once [] = Unit {0}
Once (x ∷ xs) = (Contains xs x → ⊥) × Once xs

-- an element taken out
pub split : {X : Type 0} (ys : List X) (x : X) → Contains ys x → Once ys → (zs : List X) × IsPermutation ys (x ∷ zs) × Once (x ∷ zs)
split [] x h once = absurd (in_none x h)
split {X} (y ∷ ys) x (zero, lt, e) once = (ys, subst (λ (z : X). IsPermutation (y ∷ ys) (z ∷ ys)) e (IsPermutation-refl (y ∷ ys)), subst (λ (z : X). Once (z ∷ ys)) e once)
split {X} (y ∷ ys) x (suc k, lt, e) once =
    let there : Contains ys x = (k, omega (arith, lt), e) in
    let r = split ys x there once.1 in
    let back : (z : X) → Contains r.0 z → Contains ys z = λ z h. Contains-permutation (x ∷ r.0) ys z (IsPermutation-sym ys (x ∷ r.0) r.1) (in_tail x r.0 z h) in (
      y ∷ r.0,
      IsPermutation-trans (y ∷ ys) (y ∷ x ∷ r.0) (x ∷ y ∷ r.0) (IsPermutation-cons y ys (x ∷ r.0) r.1) (IsPermutation-middle (y ∷ []) x r.0),
      (
        (λ h. elim (in_cons y r.0 x h) [ inl same ↦ once.0 (subst (λ (z : X). Contains ys z) (sym same) there) | inr later ↦ r.2.0 later ]),
        ((λ h. once.0 (back y h)), r.2.1),
      ),
    )

-- two lists of the same elements, each once, are one list in two orders
pub same_elements : {X : Type 0} (xs ys : List X) → Once xs → Once ys → ((x : X) → Contains xs x → Contains ys x) → ((x : X) → Contains ys x → Contains xs x) → IsPermutation ys xs
same_elements [] [] ox oy f g = IsPermutation-refl []
same_elements [] (y ∷ ys) ox oy f g = absurd (in_none y (g y (in_head y ys)))
same_elements {X} (x ∷ xs) ys ox oy f g =
    let r = split ys x (f x (in_head x xs)) oy in
    let into : (z : X) → Contains xs z → Contains r.0 z = λ z h. elim (in_cons x r.0 z (Contains-permutation ys (x ∷ r.0) z r.1 (f z (in_tail x xs z h)))) [
      | inl same ↦ absurd (ox.0 (subst (λ (w : X). Contains xs w) (sym same) h))
      | inr later ↦ later
    ] in
    let back : (z : X) → Contains r.0 z → Contains xs z = λ z h. elim (in_cons x xs z (g z (Contains-permutation (x ∷ r.0) ys z (IsPermutation-sym ys (x ∷ r.0) r.1) (in_tail x r.0 z h)))) [
      | inl same ↦ absurd (r.2.0 (subst (λ (w : X). Contains r.0 w) (sym same) h))
      | inr later ↦ later
    ] in
    IsPermutation-trans ys (x ∷ r.0) (x ∷ xs) r.1 (IsPermutation-cons x r.0 xs (same_elements xs r.0 ox.1 r.2.1 into back))

pub once_append : {X : Type 0} (xs ys : List X) → Once xs → Once ys → ((x : X) → Contains xs x → Contains ys x → ⊥) → Once (xs ++ ys)
once_append [] ys ox oy apart = oy
once_append {X} (x ∷ xs) ys ox oy apart = (
  (λ h. elim (Contains-append_cases xs ys x h) [ inl first ↦ ox.0 first | inr later ↦ apart x (in_head x xs) later ]),
  once_append xs ys ox.1 oy (λ z h g. apart z (in_tail x xs z h) g),
)

pub once_filter : {X : Type 0} (p : X → Bool) (xs : List X) → Once xs → Once (filter p xs)
once_filter p [] once = tt
once_filter {X} p (x ∷ xs) once =
    elim (cases_Bool (p x)) [
      | inl on ↦ subst (λ (b : Bool). Once (cond b (x ∷ filter p xs) (filter p xs))) (sym on) ((λ h. once.0 (from_filter p xs x h).0), once_filter p xs once.1)
      | inr off ↦ subst (λ (b : Bool). Once (cond b (x ∷ filter p xs) (filter p xs))) (sym off) (once_filter p xs once.1)
    ]

-- a map that is one-to-one on the list
pub once_map : {X Y : Type 0} (f : X → Y) (xs : List X) → Once xs → ((a b : X) → Contains xs a → Contains xs b → f a ≡ f b → a ≡ b) → Once (map f xs)
once_map f [] once inj = tt
once_map {X} {Y} f (x ∷ xs) once inj = (
  (λ h. let r = from_map f xs (f x) h in once.0 (subst (λ (z : X). Contains xs z) (inj r.0 x (in_tail x xs r.0 r.1) (in_head x xs) r.2) r.1)),
  once_map f xs once.1 (λ a b ha hb e. inj a b (in_tail x xs a ha) (in_tail x xs b hb) e),
)

pub once_range : (a n : ℕ) → Once (range_with_len a n)
once_range a zero = tt
once_range a (suc n) = ((λ h. above (a + 1) n a h (omega arith)), once_range (a + 1) n) where
  above : (b n k : ℕ) → Contains (range_with_len b n) k → k < b → ⊥
  above b zero k h lt = in_none k h
  above b (suc n) k h lt = elim (in_cons b (range_with_len (b + 1) n) k h) [ inl same ↦ omega (arith, same, lt) | inr later ↦ above (b + 1) n k later (omega (arith, lt)) ]

pub once_index : (xs : List ℕ) (i j : ℕ) → Once xs → i < length xs → j < length xs → get_or xs i 0 ≡ get_or xs j 0 → i ≡ j
once_index [] i j once li lj e = absurd (omega (arith, li))
once_index (x ∷ xs) zero zero once li lj e = refl
once_index (x ∷ xs) zero (suc j) once li lj e = absurd (once.0 (subst (λ z. Contains xs z) (sym e) (Contains-get_or xs j 0 (omega (arith, lj)))))
once_index (x ∷ xs) (suc i) zero once li lj e = absurd (once.0 (subst (λ z. Contains xs z) e (Contains-get_or xs i 0 (omega (arith, li)))))
once_index (x ∷ xs) (suc i) (suc j) once li lj e = ap suc (once_index xs i j once.1 (omega (arith, li)) (omega (arith, lj)) e)
