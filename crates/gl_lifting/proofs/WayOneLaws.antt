-- A way leads to one composite.
use Rattle.std.proofs.Common.{◌≡◌, ◌<◌, ◌≤◌, ◌∙◌, ◌^◌, ℕ, zero, suc, List, [], ◌∷◌, ◌++◌, length, map, cond, eqb, Bool, true, false, Option, Some, None, refl, sym, ap, subst, arith, inl, inr, flat_map, length-append, append_assoc}
use Rattle.std.specs.Prelude.{◌⊎◌, Contains, decimal, find, filter_map, reverse, zip}
use Rattle.std.specs.Option.{unwrap_or, option_map}
use Rattle.std.proofs.lemmas.Bool.{eqb-true}
use Rattle.std.proofs.lemmas.Fmt.{decimal_injective}
use Rattle.std.proofs.lemmas.List.{append_cancel_left}
use Rattle.std.proofs.lemmas.List.Elements.{Contains-append_left}
use Rattle.gl_match.proofs.Lists.{Once, in_none, in_cons, in_head, in_tail, in_map, from_flat_map}
use Rattle.gl_text.specs.Decks.{Body, body_name}
use Rattle.gl_base.specs.RoundReports.{instance_name}
use Rattle.gl_lifting.specs.Replacement.{Origin, base, made, Part, Composite}
use Rattle.gl_lifting.specs.Histories.{History}
use Rattle.gl_lifting.proofs.SuitedHistoryLaws.{left_in}
use Rattle.gl_lifting.specs.NameMaps.{Located, under, way_through, ways_through, located, located_behind, all_located}
use Rattle.gl_lists.proofs.Cons.{head_is, tail_is}

-- ---- where a way comes from

-- what is found stands there
under_there : (k : ℕ) (rows : List (ℕ × List (List ℕ))) (w : List (List ℕ)) → under rows k ≡ Some w → Contains rows (k, w)
under_there k [] w e = absurd cc
under_there k (row ∷ rows) w e = by (eqb row.0 k) refl e (under_there k rows w) where
  by : (b : Bool) → eqb row.0 k ≡ b → option_map (λ (r : ℕ × List (List ℕ)). r.1) (cond b (Some row) (find (λ (r : ℕ × List (List ℕ)). eqb r.0 k) rows)) ≡ Some w → (under rows k ≡ Some w → Contains rows (k, w)) → Contains (row ∷ rows) (k, w)
  by true on f later = subst (λ (r : ℕ × List (List ℕ)). Contains (row ∷ rows) r) (pair row.0 k row.1 w (eqb-true row.0 k on) (some_is row.1 w f)) (in_head row rows) where
    some_is : (a b : List (List ℕ)) → Some a ≡ Some b → a ≡ b
    some_is a b e = cc

    row_of : ℕ → List (List ℕ) → ℕ × List (List ℕ)
    row_of a v = (a, v)

    pair : (a b : ℕ) (v w : List (List ℕ)) → a ≡ b → v ≡ w → row_of a v ≡ row_of b w
    pair a b v w e f = ap (λ x. row_of x v) e ∙ ap (row_of b) f
  by false off f later = in_tail row rows (k, w) (later f)

-- a way is the composite's own name, or one through a card that comes before
way_from : (stem : List ℕ) (ways : List (ℕ × List (List ℕ))) (ds : List Composite) (l : Located) → Contains (located_behind stem ways ds) l
    → (l.way ≡ instance_name stem l.composite.number ∷ []) ⊎ Contains (ways ++ flat_map ways_through (located_behind stem ways ds)) (l.composite.number, l.way)
way_from stem ways [] l at = absurd (in_none l at)
way_from stem ways (d ∷ ds) l at =
    let own = located stem ways d in
    let more = ways ++ ways_through own in
    let rest = located_behind stem more ds in
    elim (in_cons own rest l at) [
      | inl same ↦ subst (λ (x : Located). (x.way ≡ instance_name stem x.composite.number ∷ []) ⊎ Contains (ways ++ flat_map ways_through (own ∷ rest)) (x.composite.number, x.way)) same (by (under ways d.number) refl)
      | inr later ↦ elim (way_from stem more ds l later) [
        | inl top ↦ inl top
        | inr row ↦ inr (subst (λ (rows : List (ℕ × List (List ℕ))). Contains rows (l.composite.number, l.way)) (append_assoc ways (ways_through own) (flat_map ways_through rest)) row)
      ]
    ]
  where
    by : (o : Option (List (List ℕ))) → under ways d.number ≡ o → ((located stem ways d).way ≡ instance_name stem d.number ∷ []) ⊎ Contains (ways ++ flat_map ways_through (located stem ways d ∷ located_behind stem (ways ++ ways_through (located stem ways d)) ds)) (d.number, (located stem ways d).way)
    by None e = inl (ap (λ o. unwrap_or o (instance_name stem d.number ∷ [])) e)
    by (Some w) e =
        let is = ap (λ o. unwrap_or o (instance_name stem d.number ∷ [])) e in
        inr (subst (λ v. Contains (ways ++ flat_map ways_through (located stem ways d ∷ located_behind stem (ways ++ ways_through (located stem ways d)) ds)) (d.number, v)) (sym is)
        (Contains-append_left ways (flat_map ways_through (located stem ways d ∷ located_behind stem (ways ++ ways_through (located stem ways d)) ds)) (d.number, w) (under_there d.number ways w e)))

-- a way through a card
card_from : (way : List (List ℕ)) (bs : List Body) (ps : List Part) (row : ℕ × List (List ℕ)) → Contains (filter_map (way_through way) (zip bs ps)) row → (b : Body) × (p : Part) × Contains (zip bs ps) (b, p) × (p.origin ≡ made row.0) × (row.1 ≡ way ++ body_name b ∷ [])
card_from way [] ps row at = absurd (in_none row at)
card_from way (b ∷ bs) [] row at = absurd (in_none row at)
card_from way (b ∷ bs) (p ∷ ps) row at = by p.origin refl (card_from way bs ps row) at where
  shift : (c : Body) × (q : Part) × Contains (zip bs ps) (c, q) × (q.origin ≡ made row.0) × (row.1 ≡ way ++ body_name c ∷ []) → (c : Body) × (q : Part) × Contains (zip (b ∷ bs) (p ∷ ps)) (c, q) × (q.origin ≡ made row.0) × (row.1 ≡ way ++ body_name c ∷ [])
  shift r = (r.0, r.1, in_tail (b, p) (zip bs ps) (r.0, r.1) r.2, r.3, r.4)

  by : (o : Origin) → p.origin ≡ o → (Contains (filter_map (way_through way) (zip bs ps)) row → (c : Body) × (q : Part) × Contains (zip bs ps) (c, q) × (q.origin ≡ made row.0) × (row.1 ≡ way ++ body_name c ∷ []))
      → Contains (filter_map (way_through way) (zip (b ∷ bs) (record { turn = p.turn; origin = o } ∷ ps))) row → (c : Body) × (q : Part) × Contains (zip (b ∷ bs) (p ∷ ps)) (c, q) × (q.origin ≡ made row.0) × (row.1 ≡ way ++ body_name c ∷ [])
  by (base d) e later at = shift (later at)
  by (made n) e later at = elim (in_cons (n, way ++ body_name b ∷ []) (filter_map (way_through way) (zip bs ps)) row at) [
    | inl same ↦ (b, p, in_head (b, p) (zip bs ps), e ∙ ap (λ (r : ℕ × List (List ℕ)). made r.0) same, sym (ap (λ (r : ℕ × List (List ℕ)). r.1) same))
    | inr behind ↦ shift (later behind)
  ]

-- a way is the composite's own name, or goes through a card of a composite with a way
abbrev Comes : List ℕ → List Located → Located → Type 0
Comes stem all l = (l.way ≡ instance_name stem l.composite.number ∷ []) ⊎ ((m : Located) × Contains all m × (b : Body) × (p : Part) × Contains (zip m.composite.cell.cards m.composite.parts) (b, p) × (p.origin ≡ made l.composite.number) × (l.way ≡ m.way ++ body_name b ∷ []))

comes : (stem : List ℕ) (h : History) (l : Located) → Contains (all_located stem h) l → Comes stem (all_located stem h) l
comes stem h l at = elim (way_from stem [] (reverse h.last.composites) l at) [
  | inl top ↦ inl top
  | inr row ↦
      let r = from_flat_map ways_through (all_located stem h) (l.composite.number, l.way) row in
      let c = card_from r.0.way r.0.composite.cell.cards r.0.composite.parts (l.composite.number, l.way) r.2 in
      inr (r.0, r.1, c.0, c.1, c.2, c.3, c.4)
]

-- ---- ends of lists

last_both : (xs ys : List (List ℕ)) (x y : List ℕ) → xs ++ x ∷ [] ≡ ys ++ y ∷ [] → (xs ≡ ys) × (x ≡ y)
last_both [] [] x y e = (refl, cc)
last_both [] (b ∷ ys) x y e = absurd (let n = ap length e in omega (arith, n, length-append ys (y ∷ [])))
last_both (a ∷ xs) [] x y e = absurd (let n = ap length e in omega (arith, n, length-append xs (x ∷ [])))
last_both (a ∷ xs) (b ∷ ys) x y e = let r = last_both xs ys x y (tail_is a b (xs ++ x ∷ []) (ys ++ y ∷ []) e) in (ap (λ z. z ∷ xs) (head_is a b (xs ++ x ∷ []) (ys ++ y ∷ []) e) ∙ ap (λ zs. b ∷ zs) r.0, r.1)

-- cards of one name are one, with one part
one_card : (bs : List Body) (ps : List Part) → Once (map body_name bs) → (b c : Body) (p q : Part) → Contains (zip bs ps) (b, p) → Contains (zip bs ps) (c, q) → body_name b ≡ body_name c → p ≡ q
one_card [] ps once b c p q ab ac e = absurd (in_none (b, p) ab)
one_card (x ∷ bs) [] once b c p q ab ac e = absurd (in_none (b, p) ab)
one_card (x ∷ bs) (y ∷ ps) once b c p q ab ac e = elim (in_cons (x, y) (zip bs ps) (b, p) ab) [
  | inl first ↦ elim (in_cons (x, y) (zip bs ps) (c, q) ac) [
    | inl second ↦ ap (λ (z : Body × Part). z.1) (sym first ∙ second)
    | inr later ↦ absurd (once.0 (subst (λ n. Contains (map body_name bs) n) (sym e ∙ ap (λ (z : Body × Part). body_name z.0) (sym first)) (in_map body_name bs c (left_in bs ps (c, q) later))))
  ]
  | inr before ↦ elim (in_cons (x, y) (zip bs ps) (c, q) ac) [
    | inl second ↦ absurd (once.0 (subst (λ n. Contains (map body_name bs) n) (e ∙ ap (λ (z : Body × Part). body_name z.0) (sym second)) (in_map body_name bs b (left_in bs ps (b, p) before))))
    | inr later ↦ one_card bs ps once.1 b c p q before later e
  ]
]

-- ---- the law

module _ (stem : List ℕ) (h : History) (low : (c : Composite) → Contains h.last.composites c → c.number < 2 ^ 64) (one_number : (c d : Composite) → Contains h.last.composites c → Contains h.last.composites d → c.number ≡ d.number → c ≡ d)
    (one_of_all : (l : Located) → Contains (all_located stem h) l → Contains h.last.composites l.composite) (cards_once : (c : Composite) → Contains h.last.composites c → Once (map body_name c.cell.cards)) where
  -- no way is empty
  pub some_way : (l : Located) → Contains (all_located stem h) l → 0 < length l.way
  some_way l at = elim (comes stem h l at) [
    | inl top ↦ let e = ap length top in omega (arith, e)
    | inr c ↦ let e = ap length c.6 in omega (arith, e, length-append c.0.way (body_name c.2 ∷ []))
  ]

  -- composites of one way are one
  one_by : (n : ℕ) (l m : Located) → length l.way ≤ n → Contains (all_located stem h) l → Contains (all_located stem h) m → l.way ≡ m.way → l.composite ≡ m.composite
  one_by zero l m le al am e = absurd (omega (arith, le, some_way l al))
  one_by (suc n) l m le al am e = elim (comes stem h l al) [
    | inl top ↦ elim (comes stem h m am) [
      | inl too ↦
          let names = head_is (instance_name stem l.composite.number) (instance_name stem m.composite.number) (sym top ∙ e ∙ too) in
          let cl = one_of_all l al in
          let cm = one_of_all m am in
          one_number l.composite m.composite cl cm (decimal_injective l.composite.number m.composite.number (low l.composite cl) (low m.composite cm) (append_cancel_left stem (decimal l.composite.number) (decimal m.composite.number) names))
      | inr c ↦ absurd (let f = sym (ap length top) ∙ ap length e ∙ ap length c.6 in omega (arith, f, length-append c.0.way (body_name c.2 ∷ []), some_way c.0 c.1))
    ]
    | inr c ↦ elim (comes stem h m am) [
      | inl too ↦ absurd (let f = sym (ap length too) ∙ sym (ap length e) ∙ ap length c.6 in omega (arith, f, length-append c.0.way (body_name c.2 ∷ []), some_way c.0 c.1))
      | inr d ↦
          let both = last_both c.0.way d.0.way (body_name c.2) (body_name d.2) (sym c.6 ∙ e ∙ d.6) in
          let long = ap length c.6 in
          let up = one_by n c.0 d.0 (omega (arith, le, long, length-append c.0.way (body_name c.2 ∷ []))) c.1 d.1 both.0 in
          let there = subst (λ (y : Composite). Contains (zip y.cell.cards y.parts) (d.2, d.3)) (sym up) d.4 in
          let part = one_card c.0.composite.cell.cards c.0.composite.parts (cards_once c.0.composite (one_of_all c.0 c.1)) c.2 d.2 c.3 d.3 c.4 there both.1 in
          one_number l.composite m.composite (one_of_all l al) (one_of_all m am) (made_is l.composite.number m.composite.number (sym c.5 ∙ ap (λ (p : Part). p.origin) part ∙ d.5))
    ]
  ] where
    head_is : (a b : List ℕ) → a ∷ [] ≡ b ∷ [] → a ≡ b
    head_is a b e = cc

    made_is : (a b : ℕ) → made a ≡ made b → a ≡ b
    made_is a b e = cc

  pub one_way : (l m : Located) → Contains (all_located stem h) l → Contains (all_located stem h) m → l.way ≡ m.way → l.composite ≡ m.composite
  one_way l m al am e = one_by (length l.way) l m (omega arith) al am e
