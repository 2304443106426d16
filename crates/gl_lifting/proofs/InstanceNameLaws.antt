-- The name of each composite is within the limit of names, since below one of no lower number at the top there is a device whose flat name has it.
use Rattle.std.proofs.Common.{◌≡◌, ◌≤◌, ◌<◌, ◌^◌, ◌∙◌, ◌+◌, ℕ, zero, suc, List, [], ◌∷◌, ◌++◌, length, cond, eqb, Option, None, Some, refl, sym, ap, subst, arith, inl, inr, append_assoc, append-nil}
use Rattle.std.specs.Prelude.{◌⊎◌, Contains, decimal, flat_map, zip}
use Rattle.std.specs.List.{AllByRecursion}
use Rattle.std.proofs.lemmas.Bool.{cases_Bool, cases_lt, eqb-true}
use Rattle.std.proofs.lemmas.Fmt.{decimal_is_IsNumeral, length-decimal-le}
use Rattle.std.proofs.lemmas.Int.Digits.{digits_value-lt}
use Rattle.gl_match.proofs.Lists.{in_head, in_tail}
use Rattle.gl_text.specs.Decks.{Body, dev_at, call_at, Sub, find_sub}
use Rattle.gl_text.specs.Flattening.{FlatDevice, Place, inside, devices_of, flat_devices}
use Rattle.gl_printed.proofs.Each.{each_to}
use Rattle.gl_printed.proofs.PickedCards.{each_flat}
use Rattle.gl_lifting.specs.Runs.{Run, searched_at}
use Rattle.gl_lifting.specs.Replacement.{Origin, base, made, Part, Slot, Composite}
use Rattle.gl_lifting.specs.Histories.{Stage, Round, History, IsLawfulRound, IsLawful, Follow, circuit_at, first_stage, chosen_in, composites_of, stage_behind}
use Rattle.gl_lifting.proofs.EachLaws.{all_append}
use Rattle.gl_lifting.proofs.Weights.{weight, part_weight}
use Rattle.gl_lifting.proofs.StageLaws.{parts_weight}
use Rattle.gl_lifting.proofs.OnceLaws.{one_made}
use Rattle.gl_lifting.proofs.MadeLaws.{made_cells, all_cells}
use Rattle.gl_lifting.proofs.OrderLaws.{parts_are_earlier}
use Rattle.gl_lifting.proofs.StandLaws.{IsTold, HasSome, searched_some, stands_weighed}
use Rattle.gl_lists.proofs.Each.{each_true as all_true}

-- ---- numbers

-- a lower number has no more digits
pub fewer_digits : (n m : ℕ) → n ≤ m → m < 2 ^ 64 → length (decimal n) ≤ length (decimal m)
fewer_digits n m le lt =
    let is = decimal_is_IsNumeral m lt in
    let below = digits_value-lt 10 (decimal m) is.0.1 in
    length-decimal-le (length (decimal m)) n is.0.0 (omega (arith, le, below, is.1)) (omega (arith, le, lt))

-- ---- cells

-- the cells of composites have cards
rounds_some : (run : Run) (level : ℕ) (stage last : Stage) (rounds : List Round) → IsTold run → AllByRecursion (λ (c : Composite). HasSome c.cell.cards) stage.composites → Follow IsLawfulRound run level stage rounds last → AllByRecursion (λ (c : Composite). HasSome c.cell.cards) last.composites
rounds_some run level stage last [] told h f = subst (λ (s : Stage). AllByRecursion (λ (c : Composite). HasSome c.cell.cards) s.composites) (sym f) h
rounds_some run level stage last (r ∷ rounds) told h f =
    let cells = searched_at run level in
    let P : Sub → Type 0 = λ x. HasSome x.cards in
    let s = r.before in
    let old = subst (λ (x : Stage). AllByRecursion (λ (c : Composite). HasSome c.cell.cards) x.composites) (sym f.0.begins) h in
    let new = made_cells P (circuit_at run s) s.slots run (flat_map chosen_in (zip cells (zip r.lists r.picks))) (all_cells P cells r.lists r.picks (searched_some run level told)) in
    rounds_some run (suc level) (stage_behind run cells r) last rounds told (all_append (λ (c : Composite). HasSome c.cell.cards) s.composites (composites_of run cells r) old new) f.1

pub cells_some : (run : Run) (h : History) → IsTold run → IsLawful run h → AllByRecursion (λ (c : Composite). HasSome c.cell.cards) h.last.composites
cells_some run h told lawful = rounds_some run 0 (first_stage run) h.last h.rounds told tt lawful.follow

-- ---- ways

-- below a place ways go on
below_card : (rails : List (List ℕ)) (subs : List Sub) (inner : Place → List Body → List FlatDevice)
    → ((p : Place) (bs : List Body) → AllByRecursion (λ (d : FlatDevice). (rest : List (List ℕ)) × (d.path ≡ p.path ++ rest)) (inner p bs))
    → (p : Place) (b : Body) → AllByRecursion (λ (d : FlatDevice). (rest : List (List ℕ)) × (d.path ≡ p.path ++ rest)) (devices_of rails subs inner p b)
below_card rails subs inner g p (dev_at line d) = (([], sym (append-nil p.path)), tt)
below_card rails subs inner g p (call_at line c) = by (find_sub subs c.sub) refl where
  by : (o : Option Sub) → find_sub subs c.sub ≡ o → AllByRecursion (λ (d : FlatDevice). (rest : List (List ℕ)) × (d.path ≡ p.path ++ rest)) (devices_of rails subs inner p (call_at line c))
  by None e = rw e tt
  by (Some t) e = rw e (each_to (λ (d : FlatDevice). (rest : List (List ℕ)) × (d.path ≡ (p.path ++ c.name ∷ []) ++ rest)) (λ (d : FlatDevice). (rest : List (List ℕ)) × (d.path ≡ p.path ++ rest)) (λ d r. (c.name ∷ r.0, r.1 ∙ append_assoc p.path (c.name ∷ []) r.0)) (inner (inside rails p c t) t.cards) (g (inside rails p c t) t.cards))

pub ways_below : (rails : List (List ℕ)) (subs : List Sub) (n : ℕ) (p : Place) (bs : List Body) → AllByRecursion (λ (d : FlatDevice). (rest : List (List ℕ)) × (d.path ≡ p.path ++ rest)) (flat_devices rails subs n p bs)
ways_below rails subs zero p bs = each_flat _ (devices_of rails subs (λ q c. []) p) bs (all_true _ (below_card rails subs (λ q c. []) (λ q c. tt) p) bs)
ways_below rails subs (suc n) p bs = each_flat _ (devices_of rails subs (flat_devices rails subs n) p) bs (all_true _ (below_card rails subs (flat_devices rails subs n) (ways_below rails subs n) p) bs)

-- ---- a composite above each

-- where slots weigh something, one of them does
pub slot_weighs : (number : ℕ) (slots : List Slot) → 1 ≤ weight (one_made number) slots → (t : Slot) × Contains slots t × (t.origin ≡ made number)
slot_weighs number [] le = absurd (omega (arith, le))
slot_weighs number (t ∷ ts) le = by t.origin refl (slot_weighs number ts) le where
  shift : (t : Slot) → (x : Slot) × Contains ts x × (x.origin ≡ made number) → (x : Slot) × Contains (t ∷ ts) x × (x.origin ≡ made number)
  shift t r = (r.0, in_tail t ts r.0 r.1, r.2)

  by : (o : Origin) → t.origin ≡ o → (1 ≤ weight (one_made number) ts → (x : Slot) × Contains ts x × (x.origin ≡ made number)) → 1 ≤ one_made number o + weight (one_made number) ts → (x : Slot) × Contains (t ∷ ts) x × (x.origin ≡ made number)
  by (base d) e later le = shift t (later (omega (arith, le)))
  by (made n) e later le = elim (cases_Bool (eqb n number)) [
    | inl on ↦ (t, in_head t ts, e ∙ ap made (eqb-true n number on))
    | inr off ↦
        let here : cond {A = ℕ} (eqb n number) 1 0 ≡ 0 = ap (λ b. cond {A = ℕ} b 1 0) off in
        shift t (later (omega (arith, le, here)))
  ]

part_weighs : (number : ℕ) (parts : List Part) → 1 ≤ part_weight (one_made number) parts → (p : Part) × Contains parts p × (p.origin ≡ made number)
part_weighs number [] le = absurd (omega (arith, le))
part_weighs number (t ∷ ts) le = by t.origin refl (part_weighs number ts) le where
  shift : (t : Part) → (x : Part) × Contains ts x × (x.origin ≡ made number) → (x : Part) × Contains (t ∷ ts) x × (x.origin ≡ made number)
  shift t r = (r.0, in_tail t ts r.0 r.1, r.2)

  by : (o : Origin) → t.origin ≡ o → (1 ≤ part_weight (one_made number) ts → (x : Part) × Contains ts x × (x.origin ≡ made number)) → 1 ≤ one_made number o + part_weight (one_made number) ts → (x : Part) × Contains (t ∷ ts) x × (x.origin ≡ made number)
  by (base d) e later le = shift t (later (omega (arith, le)))
  by (made n) e later le = elim (cases_Bool (eqb n number)) [
    | inl on ↦ (t, in_head t ts, e ∙ ap made (eqb-true n number on))
    | inr off ↦
        let here : cond {A = ℕ} (eqb n number) 1 0 ≡ 0 = ap (λ b. cond {A = ℕ} b 1 0) off in
        shift t (later (omega (arith, le, here)))
  ]

composite_weighs : (number : ℕ) (cs : List Composite) → 1 ≤ parts_weight (one_made number) cs → (c : Composite) × Contains cs c × (p : Part) × Contains c.parts p × (p.origin ≡ made number)
composite_weighs number [] le = absurd (omega (arith, le))
composite_weighs number (c ∷ cs) le = elim (cases_lt 0 (part_weight (one_made number) c.parts)) [
  | inl here ↦ let r = part_weighs number c.parts (omega (arith, here)) in (c, in_head c cs, r.0, r.1, r.2)
  | inr none ↦ let r = composite_weighs number cs (omega (arith, le, none)) in (r.0, in_tail c cs r.0 r.1, r.2, r.3, r.4)
]

-- a composite stands in the last circuit, or is a part of a later one
up : (run : Run) (h : History) → IsTold run → IsLawful run h → (n : ℕ) → 0 < n → n ≤ length h.last.composites → ((t : Slot) × Contains h.last.slots t × (t.origin ≡ made n)) ⊎ ((i : ℕ) × (i < length h.last.composites) × (n ≤ i))
up run h told lawful n above below =
    let stands = stands_weighed run h told lawful n above below in
    elim (cases_lt 0 (weight (one_made n) h.last.slots)) [
      | inl here ↦ inl (slot_weighs n h.last.slots (omega (arith, here)))
      | inr none ↦
          let r = composite_weighs n h.last.composites (omega (arith, stands, none)) in
          let i = r.1.0 in
          let part = subst (λ (c : Composite). Contains c.parts r.2) (sym r.1.2) r.3 in
          inr (i, r.1.1, (parts_are_earlier run h lawful i r.0 r.2 n r.1.1 part r.4).1)
    ]

-- a composite of no lower number stands in the last circuit
climb : (run : Run) (h : History) → IsTold run → IsLawful run h → (fuel n : ℕ) → length h.last.composites ≤ n + fuel → 0 < n → n ≤ length h.last.composites → (k : ℕ) × (n ≤ k) × (k ≤ length h.last.composites) × (t : Slot) × Contains h.last.slots t × (t.origin ≡ made k)
climb run h told lawful zero n far above below = elim (up run h told lawful n above below) [
  | inl here ↦ (n, omega arith, below, here.0, here.1, here.2)
  | inr later ↦ absurd (omega (arith, far, later.1, later.2))
]
climb run h told lawful (suc f) n far above below = elim (up run h told lawful n above below) [
  | inl here ↦ (n, omega arith, below, here.0, here.1, here.2)
  | inr later ↦ let r = climb run h told lawful f (suc later.0) (omega (arith, far, later.2)) (omega arith) (omega (arith, later.1)) in (r.0, omega (arith, r.1, later.2), r.2, r.3, r.4, r.5)
]

-- such a composite for each number
pub one_above : (run : Run) (h : History) → IsTold run → IsLawful run h → (n : ℕ) → 0 < n → n ≤ length h.last.composites → (k : ℕ) × (n ≤ k) × (k ≤ length h.last.composites) × (t : Slot) × Contains h.last.slots t × (t.origin ≡ made k)
one_above run h told lawful n above below = climb run h told lawful (length h.last.composites) n (omega arith) above below
