-- A stem stands in a name exactly where it has fewer underscores than the name needs.
use Rattle.std.proofs.Common.{◌≡◌, ◌⊎◌, ℕ, zero, suc, ◌<◌, ◌≤◌, List, [], ◌∷◌, ◌++◌, cond, eqb, refl, sym, ap, ◌∙◌, subst, arith, inl, inr, eqb-true, ltb-true, ltb-false}
use Rattle.std.specs.Prelude.{max, replicate, nat_lt, ◌&&◌}
use Rattle.std.proofs.lemmas.Bool.{cases_Bool, and_parts}
use Rattle.gl_base.specs.Stems.{StandsIn, stem_with}
use Rattle.gl_name.specs.Needs.{underscores, need_at, need}

-- so many underscores are counted as so many at least
run_counted : (n : ℕ) (behind : List ℕ) → n ≤ underscores (replicate n 95 ++ behind)
run_counted zero behind = omega arith
run_counted (suc n) behind = omega (arith, run_counted n behind)

-- what is counted stands there
run_stands : (n : ℕ) (bytes : List ℕ) → n ≤ underscores bytes → (behind : List ℕ) × (bytes ≡ replicate n 95 ++ behind)
run_stands zero bytes h = (bytes, refl)
run_stands (suc n) [] h = absurd (omega (arith, h))
run_stands (suc n) (b ∷ bs) h =
    elim (cases_Bool (eqb b 95)) [
      | inl on ↦ let more : suc n ≤ suc (underscores bs) = subst (λ t. suc n ≤ cond t (suc (underscores bs)) 0) on h in
          let others = run_stands n bs (omega (arith, more)) in
          (others.0, ap (λ ys. b ∷ ys) others.1 ∙ ap (λ x. x ∷ replicate n 95 ++ others.0) (eqb-true b 95 on))
      | inr off ↦ let none : suc n ≤ 0 = subst (λ t. suc n ≤ cond t (suc (underscores bs)) 0) off h in absurd (omega (arith, none))
    ]

-- below the greater of two is below one of them
below_max : (n a b : ℕ) → n < max a b → (n < a) ⊎ (n < b)
below_max n a b h =
    elim (cases_Bool (nat_lt n a)) [
      | inl on ↦ inl (ltb-true n a on)
      | inr off ↦ inr (omega (arith, ltb-false n a off, h))
    ]

-- a name in which the stem stands needs more underscores
stands_after : (n : ℕ) (before behind : List ℕ) → n < need (before ++ stem_with n ++ behind)
stands_after n [] behind = omega (arith, run_counted n behind)
stands_after n (b ∷ bs) behind = omega (arith, stands_after n bs behind)

pub needs_more : (n : ℕ) (name : List ℕ) → StandsIn (stem_with n) name → n < need name
needs_more n name stands = subst (λ whole. n < need whole) (sym stands.2) (stands_after n stands.0 stands.1)

stands_here : (n : ℕ) (name : List ℕ) → n < need_at name → StandsIn (stem_with n) name
stands_here n [] h = absurd (omega (arith, h))
stands_here n (x ∷ []) h = absurd (omega (arith, h))
stands_here n (x ∷ g ∷ bytes) h =
    elim (cases_Bool (eqb x 120 && eqb g 103)) [
      | inl on ↦ let more : n < suc (underscores bytes) = subst (λ t. n < cond t (suc (underscores bytes)) 0) on h in
          let others = run_stands n bytes (omega (arith, more)) in
          let first : x ≡ 120 = eqb-true x 120 (and_parts (eqb x 120) (eqb g 103) on).0 in
          let second : g ≡ 103 = eqb-true g 103 (and_parts (eqb x 120) (eqb g 103) on).1 in
          ([], others.0, ap (λ y. y ∷ g ∷ bytes) first ∙ (ap (λ y. 120 ∷ y ∷ bytes) second ∙ ap (λ ys. 120 ∷ 103 ∷ ys) others.1))
      | inr off ↦ let none : n < 0 = subst (λ t. n < cond t (suc (underscores bytes)) 0) off h in absurd (omega (arith, none))
    ]

-- a stem with fewer underscores than a name needs stands in it
pub stands_below : (n : ℕ) (name : List ℕ) → n < need name → StandsIn (stem_with n) name
stands_below n [] h = absurd (omega (arith, h))
stands_below n (b ∷ bs) h =
    elim (below_max n (need_at (b ∷ bs)) (need bs) h) [
      | inl here ↦ stands_here n (b ∷ bs) here
      | inr later ↦ let there = stands_below n bs later in (b ∷ there.0, there.1, ap (λ ys. b ∷ ys) there.2)
    ]
