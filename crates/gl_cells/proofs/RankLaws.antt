-- Where calls go down by a rank, levels and skipped cells are settled after as many calls as the rank is high.
use Rattle.std.proofs.Common.{◌≡◌, ◌<◌, ◌≤◌, ◌∙◌, ℕ, zero, suc, List, [], ◌∷◌, length, map, cond, Bool, true, false, Option, Some, None, refl, sym, ap, subst, arith}
use Rattle.std.specs.Prelude.{find, is_some}
use Rattle.std.specs.List.{AllByRecursion}
use Rattle.gl_text.specs.LogicalLines.{same_text}
use Rattle.gl_text.specs.Decks.{Sub, callees, find_sub}
use Rattle.gl_text.specs.Levels.{Down}
use Rattle.gl_text.proofs.Names.{exact}
use Rattle.gl_base.specs.Libraries.{greatest, above, level_through, level_of, own_skip, is_called, uses_else, skip_by, is_skipped_through, skip_of}

module _ (rank : List ℕ → ℕ) where
  abbrev Found : List ℕ → Sub → Type 0
  Found name t = Down rank (t ∷ []) × (t.head.name ≡ name)

  found_by : (b : Bool) (s : Sub) (subs : List Sub) (name : List ℕ) (t : Sub) (o : Option Sub) → same_text s.head.name name ≡ b → Down rank (s ∷ subs)
      → (o ≡ Some t → Found name t) → cond b (Some s) o ≡ Some t → Found name t
  found_by true s subs name t o test down later e =
      let same : s ≡ t = cc in
      subst (Found name) same ((down.0, tt), exact s.head.name name test)
  found_by false s subs name t o test down later e = later e

  -- what is found is ranked, and has the name
  found : (subs : List Sub) (name : List ℕ) (t : Sub) → Down rank subs → find_sub subs name ≡ Some t → Found name t
  found [] name t down e = absurd cc
  found (s ∷ subs) name t down e = found_by (same_text s.head.name name) s subs name t (find_sub subs name) refl down (found subs name t down.1) e

  abbrev Agree : {A : Type 0} → (Sub → A) → (Sub → A) → ℕ → Type 0
  Agree f g k = (t : Sub) → Down rank (t ∷ []) → rank t.head.name < k → f t ≡ g t

  rank_at : (name : List ℕ) (t : Sub) (k : ℕ) → t.head.name ≡ name → rank name < k → rank t.head.name < k
  rank_at name t k e lt = omega (arith, ap rank e)

  -- ---- levels

  above_agree : (f g : Sub → ℕ) (k : ℕ) (subs : List Sub) → Down rank subs → Agree f g k → (name : List ℕ) → rank name < k → (o : Option Sub) → find_sub subs name ≡ o → above f o ≡ above g o
  above_agree f g k subs down same name lt None e = refl
  above_agree f g k subs down same name lt (Some t) e = let h = found subs name t down e in ap suc (same t h.0 (rank_at name t k h.1 lt))

  levels_agree : (f g : Sub → ℕ) (k : ℕ) (subs : List Sub) → Down rank subs → Agree f g k → (m : ℕ) → m ≤ k → (names : List (List ℕ)) → AllByRecursion (λ n. rank n < m) names
      → map (λ name. above f (find_sub subs name)) names ≡ map (λ name. above g (find_sub subs name)) names
  levels_agree f g k subs down same m le [] below = refl
  levels_agree f g k subs down same m le (name ∷ names) below =
      let lt : rank name < m = below.0 in
      ap (λ n. n ∷ map (λ other. above f (find_sub subs other)) names) (above_agree f g k subs down same name (omega arith) (find_sub subs name) refl)
      ∙ ap (λ ns. above g (find_sub subs name) ∷ ns) (levels_agree f g k subs down same m le names below.1)

  levels_settled : (subs : List Sub) → Down rank subs → (k : ℕ) (t : Sub) → Down rank (t ∷ []) → rank t.head.name < k → level_through subs (suc k) t ≡ level_through subs k t
  levels_settled subs down zero t d lt = absurd (omega arith)
  levels_settled subs down (suc k) t d lt =
      ap greatest (levels_agree (level_through subs (suc k)) (level_through subs k) k subs down (levels_settled subs down k) (rank t.head.name) (omega arith) (callees t.cards) d.0)

  pub level_is : (subs : List Sub) (s : Sub) → Down rank subs → Down rank (s ∷ []) → rank s.head.name < length subs
      → level_of subs s ≡ greatest (map (λ name. above (level_of subs) (find_sub subs name)) (callees s.cards))
  level_is subs s down d lt = sym (levels_settled subs down (length subs) s d lt)

  -- ---- skipped cells

  called_agree : (f g : Sub → Bool) (k : ℕ) (subs : List Sub) → Down rank subs → Agree f g k → (name : List ℕ) → rank name < k → (o : Option Sub) → find_sub subs name ≡ o → is_called f o ≡ is_called g o
  called_agree f g k subs down same name lt None e = refl
  called_agree f g k subs down same name lt (Some t) e = let h = found subs name t down e in same t h.0 (rank_at name t k h.1 lt)

  find_agree : (f g : Sub → Bool) (k : ℕ) (subs : List Sub) → Down rank subs → Agree f g k → (m : ℕ) → m ≤ k → (names : List (List ℕ)) → AllByRecursion (λ n. rank n < m) names
      → find (λ name. is_called f (find_sub subs name)) names ≡ find (λ name. is_called g (find_sub subs name)) names
  find_agree f g k subs down same m le [] below = refl
  find_agree f g k subs down same m le (name ∷ names) below =
      let lt : rank name < m = below.0 in
      ap (λ b. cond b (Some name) (find (λ other. is_called f (find_sub subs other)) names)) (called_agree f g k subs down same name (omega arith) (find_sub subs name) refl)
      ∙ ap (λ o. cond (is_called g (find_sub subs name)) (Some name) o) (find_agree f g k subs down same m le names below.1)

  skips_agree : (f g : Sub → Bool) (k : ℕ) (subs : List Sub) → Down rank subs → Agree f g k → (s : Sub) → Down rank (s ∷ []) → rank s.head.name ≤ k → skip_by f subs s ≡ skip_by g subs s
  skips_agree f g k subs down same s d le = ap (uses_else (own_skip s)) (find_agree f g k subs down same (rank s.head.name) le (callees s.cards) d.0)

  skipped_settled : (subs : List Sub) → Down rank subs → (k : ℕ) (t : Sub) → Down rank (t ∷ []) → rank t.head.name < k → is_skipped_through subs (suc k) t ≡ is_skipped_through subs k t
  skipped_settled subs down zero t d lt = absurd (omega arith)
  skipped_settled subs down (suc k) t d lt =
      ap is_some (skips_agree (is_skipped_through subs (suc k)) (is_skipped_through subs k) k subs down (skipped_settled subs down k) t d (omega arith))

  pub skip_is : (subs : List Sub) (s : Sub) → Down rank subs → Down rank (s ∷ []) → rank s.head.name < length subs
      → skip_of subs s ≡ skip_by (λ t. is_some (skip_of subs t)) subs s
  skip_is subs s down d lt =
      sym (skips_agree (is_skipped_through subs (suc (length subs))) (is_skipped_through subs (length subs)) (length subs) subs down (skipped_settled subs down (length subs)) s d (omega arith))
