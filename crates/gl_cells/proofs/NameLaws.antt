-- The names in a table are those that were added.
use Rattle.std.proofs.Common.{◌≡◌, ℕ, List, [], ◌∷◌, ◌++◌, cond, Bool, true, false, Some, refl, sym, ap, ◌∙◌}
use Rattle.std.specs.Prelude.{find, not, ◌||◌}
use Rattle.std.specs.Cmp.Lexicographic.{nat_list_eq_equiv}
use Rattle.std.proofs.lemmas.List.Folds.{list_any-append}
use Rattle.std.proofs.lemmas.Map.Steps.{list_any_congr}
use Rattle.indexmap.specs.IndexSet.{insert_all}
use Rattle.gl_text.specs.LogicalLines.{same_text}
use Rattle.gl_text.specs.Decks.{is_in}

or_by : (a b c : Bool) → (a || (b || false) || c) ≡ (a || (b || c))
or_by true b c = refl
or_by false true c = refl
or_by false false c = refl

known_by : (b : Bool) (m n : List ℕ) (ks : List (List ℕ)) (c : Bool) → same_text m n ≡ b → is_in n ks ≡ true → (is_in m ks || c) ≡ (is_in m ks || (b || c))
known_by true m n ks c e there = ap (λ a. a || c) here ∙ sym (ap (λ a. a || true) here) where
  here : is_in m ks ≡ true
  here = list_any_congr nat_list_eq_equiv m n ks e ∙ there
known_by false m n ks c e there = refl

added_by : (b : Bool) (m n : List ℕ) (ks : List (List ℕ)) (c : Bool) → is_in n ks ≡ b → (is_in m (cond b ks (ks ++ n ∷ [])) || c) ≡ (is_in m ks || (same_text m n || c))
added_by true m n ks c e = known_by (same_text m n) m n ks c refl e
added_by false m n ks c e = ap (λ a. a || c) (list_any-append (same_text m) ks (n ∷ [])) ∙ or_by (is_in m ks) (same_text m n) c

or_none : (a : Bool) → a ≡ (a || false)
or_none true = refl
or_none false = refl

-- a name is in the table where it was, or is added
known : (m : List ℕ) (ns ks : List (List ℕ)) → is_in m (insert_all same_text ks ns) ≡ (is_in m ks || is_in m ns)
known m [] ks = or_none (is_in m ks)
known m (n ∷ ns) ks =
    known m ns (cond (is_in n ks) ks (ks ++ n ∷ [])) ∙ added_by (is_in n ks) m n ks (is_in m ns) refl

pub find_same : (p q : List ℕ → Bool) (names : List (List ℕ)) → ((n : List ℕ) → p n ≡ q n) → find p names ≡ find q names
find_same p q [] h = refl
find_same p q (n ∷ names) h = ap (λ b. cond b (Some n) (find p names)) (h n) ∙ ap (λ o. cond (q n) (Some n) o) (find_same p q names h)

-- the first name that a table lacks is the first that was not added
pub first_lacking : (ks ns names : List (List ℕ)) → ks ≡ insert_all same_text [] ns → find (λ n. not (is_in n ks)) names ≡ find (λ n. not (is_in n ns)) names
first_lacking ks ns names e = find_same (λ n. not (is_in n ks)) (λ n. not (is_in n ns)) names (λ n. ap not (ap (is_in n) e ∙ known n ns []))
