-- Variants as keys: which are the same.
use Rattle.std.proofs.Common.{◌≡◌, Bool, true, false, List, [], ◌∷◌, Option, Some, None, ℕ, eqb, refl, ap, sym, ◌∙◌}
use Rattle.std.specs.Prelude.{◌&&◌, ◌++◌}
use Rattle.std.specs.Cmp.{IsEquivalence}
use Rattle.std.specs.Hash as fed
use Rattle.std.specs.Cmp.Lexicographic.{pointwise}
use Rattle.std.proofs.lemmas.Bool.{and_parts, and_from, eqb-true, eq-eqb}
use Rattle.gl_lists.proofs.EachOnce.{same_if, differ_if}
use Rattle.gl_text.specs.LogicalLines.{same_text}
use Rattle.gl_base.proofs.TextLaws as text
use Rattle.gl_lifting.specs.Variants.{Carried, sized, built, Variant, same_model, same_carried, same_cards, same_cell, same_variant}
use Rattle.gl_variant.specs.Hashes.{variant_hashed, carried_hashed}

-- a test that is true of equal things alone, and of all of them, is an equivalence
equiv_of : {A : Type 0} (same : A → A → Bool) → ((x y : A) → same x y ≡ true → x ≡ y) → ((x : A) → same x x ≡ true) → IsEquivalence same
equiv_of {A} same exact itself = record {
  refl = itself;
  symm = λ x y. go x y (same x y) refl;
  congr = λ x y z h. ap (λ t. same t z) (exact x y h);
} where
  go : (x y : A) (b : Bool) → same x y ≡ b → same x y ≡ same y x
  go x y true on = on ∙ sym (same_if same exact itself y x (sym (exact x y on)))
  go x y false off = off ∙ sym (differ_if same exact itself y x (λ e. let on : same x y ≡ true = same_if same exact itself x y (sym e) in absurd cc))

model_exact : (m n : Option (List ℕ)) → same_model m n ≡ true → m ≡ n
model_exact None None e = refl
model_exact None (Some n) e = absurd cc
model_exact (Some m) None e = absurd cc
model_exact (Some m) (Some n) e = ap Some (text.exact m n e)

model_itself : (m : Option (List ℕ)) → same_model m m ≡ true
model_itself None = refl
model_itself (Some m) = text.itself m

-- what two cards carry is the same only where it is equal
pub exact : (x y : Carried) → same_carried x y ≡ true → x ≡ y
exact (sized t m a) (sized u n b) e =
    let r = and_parts ((eqb t u) && same_model m n) (same_text a b) e in
    let q = and_parts (eqb t u) (same_model m n) r.0 in
    ap (λ k. sized k m a) (eqb-true t u q.0) ∙ ap (λ k. sized u k a) (model_exact m n q.1) ∙ ap (sized u n) (text.exact a b r.1)
exact (sized t m a) (built u w) e = absurd cc
exact (built t v) (sized u n b) e = absurd cc
exact (built t v) (built u w) e = let r = and_parts (eqb t u) (eqb v w) e in ap (λ k. built k v) (eqb-true t u r.0) ∙ ap (built u) (eqb-true v w r.1)

pub itself : (x : Carried) → same_carried x x ≡ true
itself (sized t m a) = and_from ((eqb t t) && same_model m m) (same_text a a) (and_from (eqb t t) (same_model m m) (eq-eqb t t refl) (model_itself m)) (text.itself a)
itself (built t v) = and_from (eqb t t) (eqb v v) (eq-eqb t t refl) (eq-eqb v v refl)

pub same_carried_equiv : IsEquivalence same_carried
same_carried_equiv = equiv_of same_carried exact itself

-- card by card is place by place
pub cards_are : (xs ys : List Carried) → pointwise same_carried xs ys ≡ same_cards xs ys
cards_are [] [] = refl
cards_are [] (y ∷ ys) = refl
cards_are (x ∷ xs) [] = refl
cards_are (x ∷ xs) (y ∷ ys) = ap (λ b. same_carried x y && b) (cards_are xs ys)

cards_exact : (xs ys : List Carried) → same_cards xs ys ≡ true → xs ≡ ys
cards_exact [] [] e = refl
cards_exact [] (y ∷ ys) e = absurd cc
cards_exact (x ∷ xs) [] e = absurd cc
cards_exact (x ∷ xs) (y ∷ ys) e = let r = and_parts (same_carried x y) (same_cards xs ys) e in ap (λ z. z ∷ xs) (exact x y r.0) ∙ ap (λ zs. y ∷ zs) (cards_exact xs ys r.1)

cards_itself : (xs : List Carried) → same_cards xs xs ≡ true
cards_itself [] = refl
cards_itself (x ∷ xs) = and_from (same_carried x x) (same_cards xs xs) (itself x) (cards_itself xs)

text_equiv : IsEquivalence same_text
text_equiv = equiv_of same_text text.exact text.itself

cards_equiv : IsEquivalence same_cards
cards_equiv = equiv_of same_cards cards_exact cards_itself

-- variants are the same where the names of their cells and what their cards carry are equal
pub variant_parts : (v w : Variant) → same_variant v w ≡ true → (v.cell.head.name ≡ w.cell.head.name) × (v.cards ≡ w.cards)
variant_parts v w e = let r = and_parts (same_cell v w) (same_cards v.cards w.cards) e in (text.exact v.cell.head.name w.cell.head.name r.0, cards_exact v.cards w.cards r.1)

pub same_variant_equiv : IsEquivalence same_variant
same_variant_equiv = record {
  refl = λ v. and_from (same_cell v v) (same_cards v.cards v.cards) (text.itself v.cell.head.name) (cards_itself v.cards);
  symm = λ v w. ap (λ b. b && same_cards v.cards w.cards) (text_equiv.symm v.cell.head.name w.cell.head.name) ∙ ap (λ b. same_cell w v && b) (cards_equiv.symm v.cards w.cards);
  congr = λ v w u e. let r = variant_parts v w e in ap (λ n. same_text n u.cell.head.name && same_cards v.cards u.cards) r.0 ∙ ap (λ cs. same_cell w u && same_cards cs u.cards) r.1;
}

-- and then they are hashed alike
pub variant_alike : (v w : Variant) → same_variant v w ≡ true → variant_hashed v ≡ variant_hashed w
variant_alike v w e = let r = variant_parts v w e in λ i. fed.slice fed.u8 (r.0 i) ++ fed.slice carried_hashed (r.1 i)
