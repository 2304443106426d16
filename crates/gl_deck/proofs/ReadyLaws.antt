-- Places that nothing calls, and what is added where one call less is left.
use Rattle.std.proofs.Common.{◌≡◌, ◌≢◌, ◌+◌, ◌-◌, ◌*◌, ◌<◌, ◌≤◌, take, append-nil, ℕ, zero, suc, List, [], ◌∷◌, ◌++◌, length, cond, eqb, Bool, true, false, set, get_or, refl, sym, ap, ◌∙◌, arith, inl, inr}
use Rattle.std.specs.Prelude.{◌⊎◌}
use Rattle.std.proofs.lemmas.Bool.{eqb-true, eq-eqb}
use Rattle.std.proofs.lemmas.List.{get_or-take, get_or-set_other, length-set}
use Rattle.gl_deck.specs.CallCounts.{times, uncalled_at}
use Rattle.gl_deck.proofs.CountLaws.{Once, once, times_last}

past : (xs : List ℕ) (k p : ℕ) → k ≤ p → get_or (take k xs) p 1 ≡ 1
past xs zero p le = refl
past [] (suc k) p le = refl
past (x ∷ xs) (suc k) zero le = absurd (omega (arith, le))
past (x ∷ xs) (suc k) (suc p) le = past xs k p (omega (arith, le))

pub same_default : (xs : List ℕ) (k : ℕ) → k < length xs → get_or xs k 1 ≡ get_or xs k 0
same_default [] k h = absurd (omega (arith, h))
same_default (x ∷ xs) zero h = refl
same_default (x ∷ xs) (suc k) h = same_default xs k (omega (arith, h))

abbrev one_more : List ℕ → ℕ → List ℕ
one_more calls place = cond (eqb (get_or calls place 0) 0) (place ∷ []) []

added_by : (n place p : ℕ) (ready : List ℕ) → times p (ready ++ cond (eqb n 0) (place ∷ []) []) ≡ times p ready + times p (place ∷ []) * (1 - n)
added_by n place p ready = by (eqb n 0) refl where
  by : (b : Bool) → eqb n 0 ≡ b → times p (ready ++ cond b (place ∷ []) []) ≡ times p ready + times p (place ∷ []) * (1 - n)
  by true e =
      let z = eqb-true n 0 e in
      let one : 1 - n ≡ suc zero = omega (arith, z) in
      let m = ap (λ k. times p (place ∷ []) * k) one in
      let h = times_last p place ready in
      omega (arith, m, h)
  by false e =
      let some : n ≢ 0 = λ z. absurd (let g : eqb n 0 ≡ true = eq-eqb n 0 z in cc) in
      let none : 1 - n ≡ zero = omega (arith, some) in
      let m = ap (λ k. times p (place ∷ []) * k) none in
      let h = ap (times p) (append-nil ready) in
      omega (arith, m, h)

-- a place is added where nothing calls it
added : (calls ready new : List ℕ) (place p : ℕ) → place < length calls → new ≡ ready ++ one_more calls place → times p new ≡ times p ready + times p (place ∷ []) * uncalled_at calls place
added calls ready new place p low e =
    ap (times p) e ∙ added_by (get_or calls place 0) place p ready ∙ ap (λ k. times p ready + times p (place ∷ []) * (1 - k)) (sym (same_default calls place low))

less_or : (p q : ℕ) → (p < q) ⊎ (q ≤ p)
less_or zero zero = inr (omega arith)
less_or zero (suc q) = inl (omega arith)
less_or (suc p) zero = inr (omega arith)
less_or (suc p) (suc q) = by (less_or p q) where
  by : (p < q) ⊎ (q ≤ p) → (suc p < suc q) ⊎ (suc q ≤ suc p)
  by (inl h) = inl (omega (arith, h))
  by (inr h) = inr (omega (arith, h))

front_by : (calls : List ℕ) (place p : ℕ) → place < length calls → Once p place → uncalled_at (take (place + 1) calls) p ≡ uncalled_at (take place calls) p + times p (place ∷ []) * uncalled_at calls place
front_by calls place p low (inl h) =
    let a = past calls place p (let e = h.0 in omega (arith, e)) in
    let b = get_or-take (place + 1) calls p 1 (let e = h.0 in omega (arith, e)) in
    let m = ap (λ t. t * uncalled_at calls place) h.1 in
    let c : get_or calls p 1 ≡ get_or calls place 1 = ap (λ k. get_or calls k 1) h.0 in
    omega (arith, a, b, m, c)
front_by calls place p low (inr h) = by (less_or p place) where
  by : (p < place) ⊎ (place ≤ p) → uncalled_at (take (place + 1) calls) p ≡ uncalled_at (take place calls) p + times p (place ∷ []) * uncalled_at calls place
  by (inl lt) =
      let a = get_or-take place calls p 1 lt in
      let b = get_or-take (place + 1) calls p 1 (omega (arith, lt)) in
      let m = ap (λ t. t * uncalled_at calls place) h.1 in
      omega (arith, a, b, m)
  by (inr le) =
      let a = past calls place p le in
      let ne = h.0 in
      let b = past calls (place + 1) p (omega (arith, le, ne)) in
      let m = ap (λ t. t * uncalled_at calls place) h.1 in
      omega (arith, a, b, m)

-- the places of a front that nothing calls, and one place more
pub front_more : (calls ready new : List ℕ) (place : ℕ) → place < length calls → ((p : ℕ) → times p ready ≡ uncalled_at (take place calls) p) → new ≡ ready ++ one_more calls place
    → (p : ℕ) → times p new ≡ uncalled_at (take (place + 1) calls) p
front_more calls ready new place low h e p =
    let a = added calls ready new place p low e in
    let b = h p in
    let c = front_by calls place p low (once p place) in
    omega (arith, a, b, c)

-- one call less: what nothing calls any more is added
pub freed : (calls ready new : List ℕ) (place : ℕ) → place < length calls → 0 < get_or calls place 0 → new ≡ ready ++ one_more (set calls place (get_or calls place 0 - 1)) place
    → (p : ℕ) → times p new + uncalled_at calls p ≡ times p ready + uncalled_at (set calls place (get_or calls place 0 - 1)) p
freed calls ready new place low some e p = by (once p place) where
  by : Once p place → times p new + uncalled_at calls p ≡ times p ready + uncalled_at (set calls place (get_or calls place 0 - 1)) p
  by (inl h) =
      let less = set calls place (get_or calls place 0 - 1) in
      let size = length-set calls place (get_or calls place 0 - 1) in
      let a = added less ready new place p (omega (arith, low, size)) e in
      let m = ap (λ t. t * uncalled_at less place) h.1 in
      let own : get_or less p 1 ≡ get_or less place 1 = ap (λ k. get_or less k 1) h.0 in
      let old : get_or calls p 1 ≡ get_or calls place 0 = ap (λ k. get_or calls k 1) h.0 ∙ same_default calls place low in
      omega (arith, a, m, own, old, some)
  by (inr h) =
      let less = set calls place (get_or calls place 0 - 1) in
      let size = length-set calls place (get_or calls place 0 - 1) in
      let a = added less ready new place p (omega (arith, low, size)) e in
      let m = ap (λ t. t * uncalled_at less place) h.1 in
      let same = get_or-set_other calls place p (get_or calls place 0 - 1) 1 h.0 in
      omega (arith, a, m, same)
