-- Sets of names, and places of names.
use Rattle.std.proofs.Common.{◌≡◌, ◌≤◌, ℕ, List, [], ◌∷◌, ◌++◌, length, cond, ltb, Bool, true, false, Some, None, refl, sym, ap, ◌∙◌, arith}
use Rattle.std.specs.Prelude.{not, position, filter, ◌||◌, ◌&&◌}
use Rattle.std.specs.List.{position_or_len, prefix_len}
use Rattle.std.proofs.lemmas.Bool.{ltb-false}
use Rattle.std.specs.Cmp.Lexicographic.{nat_list_eq_equiv}
use Rattle.std.proofs.lemmas.List.Folds.{list_any-append}
use Rattle.std.proofs.lemmas.List.Elements.{filter_agree}
use Rattle.std.proofs.lemmas.Map.Steps.{list_any_congr}
use Rattle.indexmap.specs.IndexSet.{insert_all}
use Rattle.gl_text.specs.LogicalLines.{same_text}
use Rattle.gl_text.specs.Decks.{is_in}
use Rattle.gl_base.specs.Rails.{all_rails}
use Rattle.gl_named.specs.Plans.{HasNames, inner_by}
use Rattle.gl_named.specs.Walks.{inner_of}

or_by : (a b c : Bool) → (a || (b || false) || c) ≡ (a || (b || c))
or_by true b c = refl
or_by false true c = refl
or_by false false c = refl

known_by : (b : Bool) (m n : List ℕ) (ks : List (List ℕ)) (c : Bool) → same_text m n ≡ b → is_in n ks ≡ true → (is_in m ks || c) ≡ (is_in m ks || (b || c))
known_by true m n ks c e there = ap (λ a. a || c) here ∙ sym (ap (λ a. a || true) here) where
  here : is_in m ks ≡ true
  here = list_any_congr nat_list_eq_equiv m n ks e ∙ there
known_by false m n ks c e there = refl

added_by : (b : Bool) (m n : List ℕ) (ks : List (List ℕ)) (c : Bool) → is_in n ks ≡ b → (is_in m (cond b ks (ks ++ n ∷ [])) || c) ≡ (is_in m ks || (same_text m n || c))
added_by true m n ks c e = known_by (same_text m n) m n ks c refl e
added_by false m n ks c e = ap (λ a. a || c) (list_any-append (same_text m) ks (n ∷ [])) ∙ or_by (is_in m ks) (same_text m n) c

or_false : (a : Bool) → a ≡ (a || false)
or_false true = refl
or_false false = refl

-- a name is in the set where it was, or is added
pub known : (m : List ℕ) (ns ks : List (List ℕ)) → is_in m (insert_all same_text ks ns) ≡ (is_in m ks || is_in m ns)
known m [] ks = or_false (is_in m ks)
known m (n ∷ ns) ks =
    known m ns (cond (is_in n ks) ks (ks ++ n ∷ [])) ∙ added_by (is_in n ks) m n ks (is_in m ns) refl

-- names into an empty set
pub set_of : (start keys names : List (List ℕ)) → start ≡ [] → keys ≡ insert_all same_text start names → HasNames keys names
set_of start keys names empty e name = ap (is_in name) (e ∙ ap (λ ks. insert_all same_text ks names) empty) ∙ known name names []

-- one name and then others into an empty set
pub set_behind : (start first keys names : List (List ℕ)) (zero_name one : List ℕ) → start ≡ [] → zero_name ≡ one → first ≡ insert_all same_text start (zero_name ∷ []) → keys ≡ insert_all same_text first names → HasNames keys (one ∷ names)
set_behind start first keys names zero_name one empty zero_is e f name =
    ap (is_in name) (f ∙ ap (λ ks. insert_all same_text ks names) (e ∙ ap (λ ks. insert_all same_text ks (zero_name ∷ [])) empty ∙ ap (λ n. insert_all same_text [] (n ∷ [])) zero_is))
    ∙ known name names (one ∷ [])
    ∙ or_front (same_text name one) (is_in name names) where
      or_front : (a b : Bool) → ((a || false) || b) ≡ (a || b)
      or_front true b = refl
      or_front false b = refl

within : {X : Type 0} (q : X → Bool) (xs : List X) → prefix_len q xs ≤ length xs
within q [] = omega arith
within q (x ∷ xs) = by (q x) refl (within q xs)
  where
    by : (b : Bool) → q x ≡ b → prefix_len q xs ≤ length xs → prefix_len q (x ∷ xs) ≤ length (x ∷ xs)
    by true e h = rw e (omega (arith, h))
    by false e h = rw e (omega arith)

-- where none is found the place is the length
pub place_none : {X : Type 0} (p : X → Bool) (xs : List X) → position p xs ≡ None → length xs ≡ position_or_len p xs
place_none p xs e = by (ltb (position_or_len p xs) (length xs)) refl e
  where
    by : (b : Bool) → ltb (position_or_len p xs) (length xs) ≡ b → cond b (Some (position_or_len p xs)) None ≡ None → length xs ≡ position_or_len p xs
    by true f e = absurd cc
    by false f e = omega (arith, within (λ x. not (p x)) xs, ltb-false (position_or_len p xs) (length xs) f)

-- what is inner by sets is inner by what these are sets of
pub inner_same : (rail_keys port_keys rails ports : List (List ℕ)) → HasNames rail_keys (all_rails rails) → HasNames port_keys ports → (nets : List (ℕ × List ℕ)) → filter (λ (n : ℕ × List ℕ). inner_by rail_keys port_keys n.1) nets ≡ inner_of rails ports nets
inner_same rail_keys port_keys rails ports rail port nets =
    filter_agree (λ (n : ℕ × List ℕ). inner_by rail_keys port_keys n.1) (λ (n : ℕ × List ℕ). inner_by (all_rails rails) ports n.1)
    (λ n. ap (λ b. not b && not (is_in n.1 port_keys)) (rail n.1) ∙ ap (λ b. not (is_in n.1 (all_rails rails)) && not b) (port n.1)) nets
