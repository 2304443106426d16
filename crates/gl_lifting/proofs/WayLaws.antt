-- Where composites stand: each part's composite is on the way through its card, and each composite of the last circuit under its own name.
use Rattle.std.proofs.Common.{◌≡◌, ◌<◌, ◌≤◌, ◌∙◌, ◌+◌, ℕ, List, [], ◌∷◌, ◌++◌, sym, ap, subst, arith, inl, inr}
use Rattle.std.specs.Prelude.{Contains, filter_map, zip}
use Rattle.std.specs.Option.{unwrap_or}
use Rattle.std.specs.List.{AllByRecursion}
use Rattle.std.proofs.lemmas.List.Elements.{Contains-append_left, Contains-append_right}
use Rattle.gl_match.proofs.Lists.{in_none, in_cons, in_head, in_tail}
use Rattle.gl_text.specs.Decks.{Body, body_name}
use Rattle.gl_base.specs.RoundReports.{instance_name}
use Rattle.gl_lifting.specs.Replacement.{Origin, base, made, Part, Composite}
use Rattle.gl_lifting.specs.NameMaps.{Located, under, way_through, ways_through, located, located_behind}
use Rattle.gl_lifting.proofs.FlatCardLaws.{in_each}
use Rattle.gl_lifting.proofs.Weights.{part_weight}
use Rattle.gl_lifting.proofs.StageLaws.{parts_weight}
use Rattle.gl_lifting.proofs.OnceLaws.{one_made}
use Rattle.gl_lifting.proofs.TableLaws.{times, times-append, under_one, under_none}

-- ---- the ways through a composite's cards

-- the cards of a zip in which a part stands for composites weigh as much as these
through_times : (k : ℕ) (way : List (List ℕ)) (bs : List Body) (ps : List Part) → times k (filter_map (way_through way) (zip bs ps)) ≤ part_weight (one_made k) ps
through_times k way [] ps = omega arith
through_times k way (b ∷ bs) [] = omega arith
through_times k way (b ∷ bs) (p ∷ ps) = by p.origin (through_times k way bs ps) where
  by : (o : Origin) → times k (filter_map (way_through way) (zip bs ps)) ≤ part_weight (one_made k) ps
      → times k (filter_map (way_through way) (zip (b ∷ bs) (record { turn = p.turn; origin = o } ∷ ps))) ≤ one_made k o + part_weight (one_made k) ps
  by (base d) le = omega (arith, le)
  by (made n) le = omega (arith, le)

-- a card whose part is a composite has a way through
through_there : (way : List (List ℕ)) (bs : List Body) (ps : List Part) (b : Body) (p : Part) (k : ℕ) → Contains (zip bs ps) (b, p) → p.origin ≡ made k → Contains (filter_map (way_through way) (zip bs ps)) (k, way ++ body_name b ∷ [])
through_there way [] ps b p k at e = absurd (in_none (b, p) at)
through_there way (x ∷ bs) [] b p k at e = absurd (in_none (b, p) at)
through_there way (x ∷ bs) (q ∷ ps) b p k at e = elim (in_cons (x, q) (zip bs ps) (b, p) at) [
  | inl same ↦ subst (λ (z : Body × Part). Contains (filter_map (way_through way) (z ∷ zip bs ps)) (k, way ++ body_name b ∷ [])) (sym same)
      (subst (λ (o : Origin). Contains (filter_map (way_through way) ((b, record { turn = p.turn; origin = o }) ∷ zip bs ps)) (k, way ++ body_name b ∷ [])) (sym e) (in_head (k, way ++ body_name b ∷ []) (filter_map (way_through way) (zip bs ps))))
  | inr later ↦ by q.origin (through_there way bs ps b p k later e)
] where
  by : (o : Origin) → Contains (filter_map (way_through way) (zip bs ps)) (k, way ++ body_name b ∷ []) → Contains (filter_map (way_through way) (zip (x ∷ bs) (record { turn = q.turn; origin = o } ∷ ps))) (k, way ++ body_name b ∷ [])
  by (base d) h = h
  by (made n) h = in_tail (n, way ++ body_name x ∷ []) (filter_map (way_through way) (zip bs ps)) (k, way ++ body_name b ∷ []) h

-- ---- located composites

-- each is one of the composites
pub located_one : (stem : List ℕ) (ways : List (ℕ × List (List ℕ))) (ds : List Composite) (l : Located) → Contains (located_behind stem ways ds) l → Contains ds l.composite
located_one stem ways [] l at = absurd (in_none l at)
located_one stem ways (d ∷ ds) l at = elim (in_cons (located stem ways d) (located_behind stem (ways ++ ways_through (located stem ways d)) ds) l at) [
  | inl same ↦ subst (λ (x : Located). Contains (d ∷ ds) x.composite) same (in_head d ds)
  | inr later ↦ in_tail d ds l.composite (located_one stem (ways ++ ways_through (located stem ways d)) ds l later)
]

-- numbers go down
abbrev pub Descend : List Composite → Type 0
Descend [] = Unit {0}
Descend (d ∷ ds) = AllByRecursion (λ (c : Composite). c.number < d.number) ds × Descend ds

-- a composite is under a way that there is for its number
under_way : (stem : List ℕ) (ways : List (ℕ × List (List ℕ))) (ds : List Composite) (k : ℕ) (w : List (List ℕ)) → times k ways + parts_weight (one_made k) ds ≤ 1 → Contains ways (k, w) → (c : Composite) → Contains ds c → c.number ≡ k
    → (l : Located) × Contains (located_behind stem ways ds) l × (l.composite ≡ c) × (l.way ≡ w)
under_way stem ways [] k w le at c ac e = absurd (in_none c ac)
under_way stem ways (d ∷ ds) k w le at c ac e =
    let l = located stem ways d in
    let more = ways ++ ways_through l in
    let rest = located_behind stem more ds in
    elim (in_cons d ds c ac) [
      | inl same ↦
          let number : d.number ≡ k = ap (λ (x : Composite). x.number) same ∙ e in
          let found = under_one k w ways (omega (arith, le)) at in
          (l, in_head l rest, same, ap (λ n. unwrap_or (under ways n) (instance_name stem d.number ∷ [])) number ∙ ap (λ o. unwrap_or o (instance_name stem d.number ∷ [])) found)
      | inr later ↦
          let through = through_times k l.way d.cell.cards d.parts in
          let r = under_way stem more ds k w (omega (arith, le, times-append k ways (ways_through l), through)) (Contains-append_left ways (ways_through l) (k, w) at) c later e in
          (r.0, in_tail l rest r.0 r.1, r.2, r.3)
    ]

-- a part's composite is on the way through its card
pub way_on : (stem : List ℕ) (ways : List (ℕ × List (List ℕ))) (ds : List Composite) (k : ℕ) → times k ways + parts_weight (one_made k) ds ≤ 1 → Descend ds → (l : Located) → Contains (located_behind stem ways ds) l → k < l.composite.number
    → (b : Body) (p : Part) → Contains (zip l.composite.cell.cards l.composite.parts) (b, p) → p.origin ≡ made k → (c : Composite) → Contains ds c → c.number ≡ k
    → (m : Located) × Contains (located_behind stem ways ds) m × (m.composite ≡ c) × (m.way ≡ l.way ++ body_name b ∷ [])
way_on stem ways [] k le down l at less b p part e c ac f = absurd (in_none c ac)
way_on stem ways (d ∷ ds) k le down l at less b p part e c ac f =
    let own = located stem ways d in
    let more = ways ++ ways_through own in
    let rest = located_behind stem more ds in
    let through = through_times k own.way d.cell.cards d.parts in
    let low : times k more + parts_weight (one_made k) ds ≤ 1 = omega (arith, le, times-append k ways (ways_through own), through) in
    elim (in_cons own rest l at) [
      | inl same ↦
          let number = ap (λ (x : Located). x.composite.number) same in
          let behind : Contains ds c = elim (in_cons d ds c ac) [
            | inl first ↦ absurd (let n = ap (λ (x : Composite). x.number) first in omega (arith, n, f, number, less))
            | inr later ↦ later
          ] in
          let row = through_there l.way l.composite.cell.cards l.composite.parts b p k part e in
          let there = subst (λ (x : Located). Contains (ways_through x) (k, l.way ++ body_name b ∷ [])) (sym same) row in
          let r = under_way stem more ds k (l.way ++ body_name b ∷ []) low (Contains-append_right ways (ways_through own) (k, l.way ++ body_name b ∷ []) there) c behind f in
          (r.0, in_tail own rest r.0 r.1, r.2, r.3)
      | inr later ↦
          let lower = in_each (λ (x : Composite). x.number < d.number) ds l.composite down.0 (located_one stem more ds l later) in
          let behind : Contains ds c = elim (in_cons d ds c ac) [
            | inl first ↦ absurd (let n = ap (λ (x : Composite). x.number) first in omega (arith, n, f, lower, less))
            | inr after ↦ after
          ] in
          let r = way_on stem more ds k low down.1 l later less b p part e c behind f in
          (r.0, in_tail own rest r.0 r.1, r.2, r.3)
    ]

-- a composite that is no part is under its own name
pub own_way : (stem : List ℕ) (ways : List (ℕ × List (List ℕ))) (ds : List Composite) (c : Composite) → times c.number ways + parts_weight (one_made c.number) ds ≤ 0 → Contains ds c
    → (l : Located) × Contains (located_behind stem ways ds) l × (l.composite ≡ c) × (l.way ≡ instance_name stem c.number ∷ [])
own_way stem ways [] c le ac = absurd (in_none c ac)
own_way stem ways (d ∷ ds) c le ac =
    let l = located stem ways d in
    let more = ways ++ ways_through l in
    let rest = located_behind stem more ds in
    elim (in_cons d ds c ac) [
      | inl same ↦
          let number : d.number ≡ c.number = ap (λ (x : Composite). x.number) same in
          let none = under_none c.number ways (omega (arith, le)) in
          (l, in_head l rest, same, ap (λ n. unwrap_or (under ways n) (instance_name stem n ∷ [])) number ∙ ap (λ o. unwrap_or o (instance_name stem c.number ∷ [])) none)
      | inr later ↦
          let through = through_times c.number l.way d.cell.cards d.parts in
          let r = own_way stem more ds c (omega (arith, le, times-append c.number ways (ways_through l), through)) later in
          (r.0, in_tail l rest r.0 r.1, r.2, r.3)
    ]
