-- Two lists as long as each other, where one has each item of the other, are one list in two orders; so devices under their new names.
use Rattle.std.proofs.Common.{◌≡◌, ◌∙◌, ℕ, List, [], ◌∷◌, length, map, sym, ap, subst, arith, inl, inr}
use Rattle.std.specs.Prelude.{Contains, IsPermutation, zip}
use Rattle.std.specs.List.{AllByRecursion}
use Rattle.std.proofs.lemmas.List.{length-map, nil_from_length}
use Rattle.std.proofs.lemmas.List.Sorted.{IsPermutation-refl, IsPermutation-cons, IsPermutation-trans, IsPermutation-middle, Contains-permutation, length_permutation}
use Rattle.gl_lists.proofs.Each.{each_in}
use Rattle.gl_lists.proofs.Membership.{in_head, in_tail, in_cons, in_none, in_map}
use Rattle.gl_lists.proofs.Once.{Once}
use Rattle.gl_lists.proofs.Zips.{length_zip}
use Rattle.gl_text.specs.Cards.{Device as Card}

-- ---- lists

-- an item taken out
taken : {X : Type 0} (ys : List X) (x : X) → Contains ys x → (zs : List X) × IsPermutation ys (x ∷ zs)
taken [] x h = absurd (in_none x h)
taken {X} (y ∷ ys) x h = elim (in_cons y ys x h) [
  | inl same ↦ (ys, subst (λ (w : X). IsPermutation (y ∷ ys) (w ∷ ys)) same (IsPermutation-refl (y ∷ ys)))
  | inr later ↦
      let r = taken ys x later in (
        y ∷ r.0,
        IsPermutation-trans (y ∷ ys) (y ∷ x ∷ r.0) (x ∷ y ∷ r.0) (IsPermutation-cons y ys (x ∷ r.0) r.1) (IsPermutation-middle (y ∷ []) x r.0),
      )
]

-- what has each item of a list in which each stands once, and no more items, is that list in another order
pub filled : {X : Type 0} (xs ys : List X) → Once xs → ((x : X) → Contains xs x → Contains ys x) → length xs ≡ length ys → IsPermutation ys xs
filled [] ys once into long = subst (λ zs. IsPermutation zs []) (sym (nil_from_length ys (sym long))) (IsPermutation-refl [])
filled {X} (x ∷ xs) ys once into long =
    let r = taken ys x (into x (in_head x xs)) in
    let rest : (z : X) → Contains xs z → Contains r.0 z = λ z h. elim (in_cons x r.0 z (Contains-permutation ys (x ∷ r.0) z r.1 (into z (in_tail x xs z h)))) [
      | inl same ↦ absurd (once.0 (subst (λ (w : X). Contains xs w) (sym same) h))
      | inr later ↦ later
    ] in
    IsPermutation-trans ys (x ∷ r.0) (x ∷ xs) r.1 (IsPermutation-cons x r.0 xs (filled xs r.0 once.1 rest (omega (arith, long, length_permutation ys (x ∷ r.0) r.1))))

-- what is told apart by names stands once
once_unmap : {X Y : Type 0} (f : X → Y) (xs : List X) → Once (map f xs) → Once xs
once_unmap f [] once = tt
once_unmap f (x ∷ xs) once = ((λ h. once.0 (in_map f xs x h)), once_unmap f xs once.1)

-- and is the one of its name
one_of_name : {X Y : Type 0} (f : X → Y) (xs : List X) → Once (map f xs) → (a b : X) → Contains xs a → Contains xs b → f a ≡ f b → a ≡ b
one_of_name f [] once a b ha hb e = absurd (in_none a ha)
one_of_name {X} {Y} f (x ∷ xs) once a b ha hb e = elim (in_cons x xs a ha) [
  | inl a_first ↦ elim (in_cons x xs b hb) [
    | inl b_first ↦ sym a_first ∙ b_first
    | inr b_later ↦ absurd (once.0 (subst (λ (y : Y). Contains (map f xs) y) (sym e ∙ ap f (sym a_first)) (in_map f xs b b_later)))
  ]
  | inr a_later ↦ elim (in_cons x xs b hb) [
    | inl b_first ↦ absurd (once.0 (subst (λ (y : Y). Contains (map f xs) y) (e ∙ ap f (sym b_first)) (in_map f xs a a_later)))
    | inr b_later ↦ one_of_name f xs once.1 a b a_later b_later e
  ]
]

-- something stands beside each item
beside : {X Y : Type 0} (xs : List X) (ys : List Y) (x : X) → length xs ≡ length ys → Contains xs x → (y : Y) × Contains (zip xs ys) (x, y)
beside [] ys x long h = absurd (in_none x h)
beside (z ∷ xs) [] x long h = absurd (omega (arith, long))
beside {X} {Y} (z ∷ xs) (y ∷ ys) x long h = elim (in_cons z xs x h) [
  | inl same ↦ (y, subst (λ (w : X). Contains ((z, y) ∷ zip xs ys) (w, y)) same (in_head (z, y) (zip xs ys)))
  | inr later ↦ let r = beside xs ys x (omega (arith, long)) later in (r.0, in_tail (z, y) (zip xs ys) (x, r.0) r.1)
]

-- ---- devices

-- devices under new names that all stand somewhere, where the devices there are as many, and each has a name of its own among the new ones
pub permuted : (new : List ℕ × Card → Card) → ((z : List ℕ × Card) → (new z).name ≡ z.0) → (names : List (List ℕ)) (cards there : List Card) → length names ≡ length cards → length there ≡ length cards
    → Once (map (λ (c : Card). c.name) there) → AllByRecursion (λ c. Contains there c) (map new (zip names cards)) → ((c : Card) → Contains there c → Contains names c.name) → IsPermutation (map new (zip names cards)) there
permuted new named names cards there long many once stand known =
    filled there (map new (zip names cards)) (once_unmap (λ (c : Card). c.name) there once) into (many ∙ sym long ∙ sym (length_zip names cards long) ∙ sym (length-map (zip names cards) new))
  where
    into : (c : Card) → Contains there c → Contains (map new (zip names cards)) c
    into c at =
        let r = beside names cards c.name long (known c at) in
        let on = in_map new (zip names cards) (c.name, r.0) r.1 in
        let same = one_of_name (λ (d : Card). d.name) there once (new (c.name, r.0)) c (each_in (λ d. Contains there d) (map new (zip names cards)) (new (c.name, r.0)) stand on) at (named (c.name, r.0)) in
        subst (λ (d : Card). Contains (map new (zip names cards)) d) same on
