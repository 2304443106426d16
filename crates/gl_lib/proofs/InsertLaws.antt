-- The keys of an index set after inserts: each once, in order of first appearance.
use Rattle.std.proofs.Common.{◌≡◌, get_or, drop, ◌+◌, ◌<◌, ◌≤◌, ℕ, length, map, flat_map, arith, List, [], ◌∷◌, ◌++◌, cond, true, false, Bool, refl, sym, ap, ◌∙◌, subst, append_assoc, length-append, inl, inr}
use Rattle.std.specs.Prelude.{not, ◌||◌, ◌&&◌, filter, if◌then◌else◌}
use Rattle.std.specs.List.{list_any}
use Rattle.std.proofs.lemmas.List.{drop_more, drop_all}
use Rattle.std.proofs.lemmas.List.Sums.{fold-append, sum_by-cons}
use Rattle.gl_text.specs.Cards.{Device as Card}
use Rattle.gl_text.specs.CellCards.{places_count}
use Rattle.gl_base.specs.Rails.{zero_rail, all_rails, AreRails}
use Rattle.std.proofs.lemmas.Bool.{cases_Bool, not_from_true}
use Rattle.std.proofs.lemmas.List.Elements.{filter_agree}
use Rattle.std.proofs.lemmas.List.Folds.{list_any-append}
use Rattle.indexmap.specs.IndexSet.{insert_key, insert_all}
use Rattle.gl_text.specs.LogicalLines.{same_text}
use Rattle.gl_text.specs.Decks.{once}
use Rattle.gl_base.specs.TypeNames.{TypeName, same_type, each_once}
use Rattle.gl_base.proofs.OnceLaws.{once_by, filter_all, same_if, differ_if, once_kept}
use Rattle.gl_base.proofs.TextLaws as text
use Rattle.gl_base.proofs.TypeLaws as types

-- two filters are one
pub filter_both : {A : Type 0} (p q : A → Bool) (xs : List A) → filter p (filter q xs) ≡ filter (λ x. q x && p x) xs
filter_both p q [] = refl
filter_both {A} p q (x ∷ xs) = go (filter_both p q xs) (q x) refl where
  whole : List A
  whole = filter (λ y. q y && p y) xs

  go : filter p (filter q xs) ≡ whole → (b : Bool) → q x ≡ b → filter p (cond (q x) (x ∷ filter q xs) (filter q xs)) ≡ cond (q x && p x) (x ∷ whole) whole
  go rest true on =
      ap (λ (b : Bool). filter p (cond b (x ∷ filter q xs) (filter q xs))) on
      ∙ ap (λ ys. cond (p x) (x ∷ ys) ys) rest
      ∙ sym (ap (λ (b : Bool). cond (b && p x) (x ∷ whole) whole) on)
  go rest false off =
      ap (λ (b : Bool). filter p (cond b (x ∷ filter q xs) (filter q xs))) off
      ∙ rest
      ∙ sym (ap (λ (b : Bool). cond (b && p x) (x ∷ whole) whole) off)

module _ {A : Type 0} (same : A → A → Bool) (exact : (x y : A) → same x y ≡ true → x ≡ y) (itself : (x : A) → same x x ≡ true) where
  -- the element is not among the keys
  abbrev pub new_to : List A → A → Bool
  new_to ks x = not (list_any (same x) ks)

  symm : (x y : A) → same x y ≡ same y x
  symm x y =
      elim (cases_Bool (same x y)) [
        | inl on ↦ on ∙ sym (same_if same exact itself y x (sym (exact x y on)))
        | inr off ↦ off ∙ sym (differ_if same exact itself y x (λ e. let on : same x y ≡ true = same_if same exact itself x y (sym e) in absurd cc))
      ]

  right_nil : (xs : List A) → xs ++ [] ≡ xs
  right_nil [] = refl
  right_nil (x ∷ xs) = ap (λ ys. x ∷ ys) (right_nil xs)

  neither : (a b : Bool) → not (a || (b || false)) ≡ (not b && not a)
  neither true true = refl
  neither true false = refl
  neither false true = refl
  neither false false = refl

  -- what is among the keys may be looked for with what is the same as one of them
  old_apart : (ks : List A) (x y : A) → list_any (same x) ks ≡ true → new_to ks y ≡ (not (same x y) && new_to ks y)
  old_apart ks x y on = go (same x y) refl where
    go : (b : Bool) → same x y ≡ b → new_to ks y ≡ (not b && new_to ks y)
    go true t = not_from_true (list_any (same y) ks) (subst (λ z. list_any (same z) ks ≡ true) (exact x y t) on)
    go false t = refl

  one_more : (ks : List A) (x y : A) → new_to (ks ++ x ∷ []) y ≡ (not (same x y) && new_to ks y)
  one_more ks x y =
      ap not (list_any-append (same y) ks (x ∷ []))
      ∙ neither (list_any (same y) ks) (same y x)
      ∙ ap (λ b. not b && new_to ks y) (symm y x)

  -- the keys stay, and behind them comes what is new, each once
  pub inserted : (ks xs : List A) → insert_all same ks xs ≡ ks ++ filter (new_to ks) (once_by same xs)
  inserted ks [] = sym (right_nil ks)
  inserted ks (x ∷ xs) = go (inserted ks xs) (inserted (ks ++ x ∷ []) xs) (list_any (same x) ks) refl where
    rest : List A
    rest = filter (new_to ks) (filter (λ y. not (same x y)) (once_by same xs))

    go : insert_all same ks xs ≡ ks ++ filter (new_to ks) (once_by same xs)
        → insert_all same (ks ++ x ∷ []) xs ≡ (ks ++ x ∷ []) ++ filter (new_to (ks ++ x ∷ [])) (once_by same xs)
        → (b : Bool) → list_any (same x) ks ≡ b → insert_all same (if list_any (same x) ks then ks else (ks ++ x ∷ [])) xs ≡ ks ++ cond (not (list_any (same x) ks)) (x ∷ rest) rest
    go kept added true on =
        ap (λ (b : Bool). insert_all same (cond b ks (ks ++ x ∷ [])) xs) on
        ∙ kept
        ∙ ap (λ ys. ks ++ ys) (filter_agree (new_to ks) (λ y. not (same x y) && new_to ks y) (λ y. old_apart ks x y on) (once_by same xs) ∙ sym (filter_both (new_to ks) (λ y. not (same x y)) (once_by same xs)))
        ∙ sym (ap (λ (b : Bool). ks ++ cond (not b) (x ∷ rest) rest) on)
    go kept added false off =
        ap (λ (b : Bool). insert_all same (cond b ks (ks ++ x ∷ [])) xs) off
        ∙ added
        ∙ append_assoc ks (x ∷ []) (filter (new_to (ks ++ x ∷ [])) (once_by same xs))
        ∙ ap (λ ys. ks ++ (x ∷ ys)) (filter_agree (new_to (ks ++ x ∷ [])) (λ y. not (same x y) && new_to ks y) (λ y. one_more ks x y) (once_by same xs) ∙ sym (filter_both (new_to ks) (λ y. not (same x y)) (once_by same xs)))
        ∙ sym (ap (λ (b : Bool). ks ++ cond (not b) (x ∷ rest) rest) off)

  -- into no keys
  pub inserted_once : (xs : List A) → insert_all same [] xs ≡ once_by same xs
  inserted_once xs = inserted [] xs ∙ filter_all (λ x. not (list_any (same x) [])) (once_by same xs) (λ x h. refl)

-- names into an empty set
pub names_inserted : (start keys names : List (List ℕ)) → start ≡ [] → keys ≡ insert_all same_text start names → keys ≡ once names
names_inserted start keys names empty e =
    e ∙ ap (λ ks. insert_all same_text ks names) empty ∙ inserted_once same_text text.exact text.itself names ∙ sym (text.once_is names)

-- names and then other names into an empty set
pub both_inserted : (start first second names others : List (List ℕ)) → start ≡ [] → first ≡ insert_all same_text start names → second ≡ insert_all same_text first others → second ≡ once (names ++ others)
both_inserted start first second names others empty one two =
    names_inserted start second (names ++ others) empty (two ∙ ap (λ ks. insert_all same_text ks others) one ∙ sym (fold-append (insert_key same_text) start names others))

-- types into an empty set
pub types_inserted : (start keys kinds : List TypeName) → start ≡ [] → keys ≡ insert_all same_type start kinds → keys ≡ each_once kinds
types_inserted start keys kinds empty e =
    e ∙ ap (λ ks. insert_all same_type ks kinds) empty ∙ inserted_once same_type types.exact types.itself kinds ∙ sym (types.once_is kinds)

-- there are as few keys as names
pub few_names : (keys names : List (List ℕ)) (limit : ℕ) → keys ≡ once names → length names < limit → length keys < limit
few_names keys names limit e few = let same = ap length e in omega (arith, same, text.names_fewer names)

-- the places of devices, and the devices
pub places_are : (devices : List Card) → length (flat_map (λ (d : Card). d.nodes) devices) + length devices ≡ places_count devices
places_are [] = refl
places_are (d ∷ ds) =
    let split = length-append d.nodes (flat_map (λ (c : Card). c.nodes) ds) in
    let count = sum_by-cons (λ (c : Card). length c.nodes + 1) d ds in
    omega (arith, split, count, places_are ds)

-- one step of a loop over cards: the nodes of one go first
pub nodes_step : {R C : Type 0} (value : R → C) (nodes : C → List (List ℕ)) (keys new : List (List ℕ)) (cards : List R) (i : ℕ) (c : R) (whole : List (List ℕ)) → i < length cards → c ≡ get_or cards i c → new ≡ insert_all same_text keys (nodes (value c))
    → insert_all same_text keys (flat_map nodes (map value (drop i cards))) ≡ whole → insert_all same_text new (flat_map nodes (map value (drop (i + 1) cards))) ≡ whole
nodes_step value nodes keys new cards i c whole lt c_is new_is before =
    let rest = flat_map nodes (map value (drop (i + 1) cards)) in
    let split : drop i cards ≡ c ∷ drop (i + 1) cards = drop_more cards i c lt ∙ ap (λ d. d ∷ drop (i + 1) cards) (sym c_is) in
    ap (λ ks. insert_all same_text ks rest) new_is
    ∙ sym (fold-append (insert_key same_text) keys (nodes (value c)) rest)
    ∙ ap (λ ds. insert_all same_text keys (flat_map nodes (map value ds))) (sym split)
    ∙ before

-- at its end
pub nodes_done : {R C : Type 0} (value : R → C) (nodes : C → List (List ℕ)) (keys : List (List ℕ)) (cards : List R) (i : ℕ) → length cards ≤ i → insert_all same_text keys (flat_map nodes (map value (drop i cards))) ≡ insert_all same_text [] (flat_map nodes (map value cards))
    → keys ≡ once (flat_map nodes (map value cards))
nodes_done value nodes keys cards i past done =
    let none : drop i cards ≡ [] = drop_all i cards past in
    let all : keys ≡ insert_all same_text [] (flat_map nodes (map value cards)) = ap (λ ds. insert_all same_text keys (flat_map nodes (map value ds))) (sym none) ∙ done in
    names_inserted [] keys (flat_map nodes (map value cards)) refl all

-- `0` and then the other rails
pub rails_are_all : (start first keys rails : List (List ℕ)) (zero_name : List ℕ) → start ≡ [] → zero_name ≡ zero_rail → first ≡ insert_all same_text start (zero_name ∷ []) → keys ≡ insert_all same_text first rails → AreRails rails → keys ≡ all_rails rails
rails_are_all start first keys rails zero_name empty zero_is one rest are =
    let both : keys ≡ insert_all same_text start (zero_rail ∷ rails) =
    rest
    ∙ ap (λ ks. insert_all same_text ks rails) (one ∙ ap (λ n. insert_all same_text start (n ∷ [])) zero_is)
    ∙ sym (fold-append (insert_key same_text) start (zero_rail ∷ []) rails) in
    names_inserted start keys (all_rails rails) empty both
    ∙ text.once_is (all_rails rails)
    ∙ once_kept same_text text.exact text.itself (all_rails rails) (text.rails_once rails are)
