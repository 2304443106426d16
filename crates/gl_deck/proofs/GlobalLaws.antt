-- The keys of a table of names: each name once, in order of first appearance.
use Rattle.std.proofs.Common.{◌≡◌, ℕ, List, [], ◌∷◌, ◌++◌, cond, true, false, Bool, refl, sym, ap, ◌∙◌, append_assoc, append-nil}
use Rattle.std.specs.Prelude.{not, filter, ◌||◌}
use Rattle.std.specs.Cmp.Lexicographic.{nat_list_eq_equiv}
use Rattle.std.proofs.lemmas.List.Folds.{list_any-append}
use Rattle.std.proofs.lemmas.Map.Steps.{list_any_congr}
use Rattle.indexmap.specs.IndexSet.{insert_all}
use Rattle.gl_text.specs.LogicalLines.{same_text}
use Rattle.gl_text.specs.Decks.{is_in, once}

-- ---- filters

both_by : {A : Type 0} (p q r : A → Bool) (x : A) (xs : List A) (b c : Bool) → r x ≡ cond b c false → filter p (filter q xs) ≡ filter r xs
    → p x ≡ c → filter p (cond b (x ∷ filter q xs) (filter q xs)) ≡ cond (r x) (x ∷ filter r xs) (filter r xs)
both_by p q r x xs true c e h pe = ap (λ t. cond t (x ∷ filter p (filter q xs)) (filter p (filter q xs))) (pe ∙ sym e) ∙ ap (λ t. cond (r x) (x ∷ t) t) h
both_by p q r x xs false c e h pe = h ∙ sym (ap (λ t. cond t (x ∷ filter r xs) (filter r xs)) e)

-- a filter of a filter
pub filter_both : {A : Type 0} (p q r : A → Bool) → ((x : A) → r x ≡ cond (q x) (p x) false) → (xs : List A) → filter p (filter q xs) ≡ filter r xs
filter_both p q r same [] = refl
filter_both p q r same (x ∷ xs) = both_by p q r x xs (q x) (p x) (same x) (filter_both p q r same xs) refl

-- ---- the keys of a table

abbrev is_new : List (List ℕ) → List ℕ → Bool
is_new names name = not (is_in name names)

kept_by : (b : Bool) (n x : List ℕ) (ks : List (List ℕ)) → same_text n x ≡ b → is_in n ks ≡ true → is_new ks x ≡ cond (not b) (is_new ks x) false
kept_by true n x ks e there = ap not (sym (list_any_congr nat_list_eq_equiv n x ks e) ∙ there)
kept_by false n x ks e there = refl

more_by : (a b : Bool) → not (a || (b || false)) ≡ cond (not b) (not a) false
more_by true true = refl
more_by true false = refl
more_by false true = refl
more_by false false = refl

more_is : (n x : List ℕ) (ks : List (List ℕ)) → is_new (ks ++ n ∷ []) x ≡ cond (not (same_text n x)) (is_new ks x) false
more_is n x ks =
    ap not (list_any-append (same_text x) ks (n ∷ [])) ∙ more_by (is_in x ks) (same_text x n)
    ∙ ap (λ t. cond (not t) (is_new ks x) false) (nat_list_eq_equiv.symm x n)

new_by : (b : Bool) (n : List ℕ) (ks ns : List (List ℕ)) → is_in n ks ≡ b
    → ((ls : List (List ℕ)) → insert_all same_text ls ns ≡ ls ++ filter (is_new ls) (once ns))
    → insert_all same_text (cond b ks (ks ++ n ∷ [])) ns ≡ ks ++ cond (not b) (n ∷ filter (is_new ks) (filter (λ m. not (same_text n m)) (once ns))) (filter (is_new ks) (filter (λ m. not (same_text n m)) (once ns)))
new_by true n ks ns e h =
    h ks ∙ ap (λ t. ks ++ t) (sym (filter_both (is_new ks) (λ m. not (same_text n m)) (is_new ks) (λ x. kept_by (same_text n x) n x ks refl e) (once ns)))
new_by false n ks ns e h =
    h (ks ++ n ∷ []) ∙ append_assoc ks (n ∷ []) (filter (is_new (ks ++ n ∷ [])) (once ns))
    ∙ ap (λ t. ks ++ n ∷ t) (sym (filter_both (is_new ks) (λ m. not (same_text n m)) (is_new (ks ++ n ∷ [])) (λ x. more_is n x ks) (once ns)))

-- what a table holds behind the keys that it held
pub all_keys : (ks ns : List (List ℕ)) → insert_all same_text ks ns ≡ ks ++ filter (is_new ks) (once ns)
all_keys ks [] = sym (append-nil ks)
all_keys ks (n ∷ ns) = new_by (is_in n ks) n ks ns refl (λ ls. all_keys ls ns)

filter_true : {A : Type 0} (xs : List A) → filter (λ (x : A). true) xs ≡ xs
filter_true [] = refl
filter_true (x ∷ xs) = ap (λ t. x ∷ t) (filter_true xs)

-- the keys of a table of names are the names, each once
pub keys_once : (ns : List (List ℕ)) → insert_all same_text [] ns ≡ once ns
keys_once ns = all_keys [] ns ∙ filter_true (once ns)
