-- Inner nets are apart: over all rounds a net of the first circuit is the image of at most one inner net of one composite, and then stands on no device of the circuit.
use Rattle.std.proofs.Common.{◌≡◌, ◌<◌, ◌≤◌, ◌∙◌, ◌+◌, ℕ, zero, suc, List, [], ◌∷◌, length, map, Bool, true, false, Option, Some, None, refl, sym, subst, arith, inl, inr, flat_map}
use Rattle.std.specs.Prelude.{◌⊎◌, Contains, find}
use Rattle.std.specs.List.{AllByRecursion, list_any, enumerate_from}
use Rattle.std.proofs.lemmas.Bool.{cases_Bool, cases_lt, or_parts}
use Rattle.gl_match.proofs.Lists.{in_none, in_cons, in_head, in_tail}
use Rattle.gl_match.specs.Graph.{Device, device_at, is_in}
use Rattle.gl_base.specs.BaseCircuit.{Source}
use Rattle.gl_lifting.specs.Runs.{Run}
use Rattle.gl_lifting.specs.Replacement.{Slot, Composite, is_lowest, composite_slot, after_at, replaced}
use Rattle.gl_lifting.proofs.EachLaws.{all_append, all_found, not_both}
use Rattle.gl_lifting.proofs.FlatCardLaws.{in_each}
use Rattle.gl_lifting.proofs.Weights.{Apart, AllApart}
use Rattle.gl_lifting.proofs.InnerRowLaws.{inner_times, inner_sum}

-- the device at a place of slots
abbrev pub slot_device : List Slot → ℕ → Device
slot_device slots k = device_at (map (λ (t : Slot). t.device) slots) k

-- what is known of the nets of a composite that is made from slots: an inner image is one net's, stands on its devices and no others, and is no rail's; its binding stands on its devices, and has no inner image
pub record HasOwnNets (run : Run) (rail : ℕ → Bool) (slots : List Slot) (c : Composite) : Type 0 where
  pub once : (i : ℕ) → inner_times run.source i c ≤ 1
  pub on : (i : ℕ) → 1 ≤ inner_times run.source i c → (k : ℕ) × (k < length slots) × Contains (slot_device slots k).nets i × (is_in c.key.set k ≡ true)
  pub only : (i : ℕ) → 1 ≤ inner_times run.source i c → (k : ℕ) → k < length slots → Contains (slot_device slots k).nets i → is_in c.key.set k ≡ true
  pub no_rail : (i : ℕ) → 1 ≤ inner_times run.source i c → rail i ≡ false
  pub bound : (i : ℕ) → Contains c.key.binding i → (k : ℕ) × (k < length slots) × Contains (slot_device slots k).nets i × (is_in c.key.set k ≡ true)
  pub not_bound : (i : ℕ) → 1 ≤ inner_times run.source i c → Contains c.key.binding i → ⊥

-- a net stands on no slot
abbrev pub IsFree : ℕ → List Slot → Type 0
IsFree i slots = AllByRecursion (λ (t : Slot). Contains t.device.nets i → ⊥) slots

free_at : (i : ℕ) (slots : List Slot) → IsFree i slots → (k : ℕ) → k < length slots → Contains (slot_device slots k).nets i → ⊥
free_at i [] h k lt on = absurd (omega (arith, lt))
free_at i (t ∷ ts) h zero lt on = h.0 on
free_at i (t ∷ ts) h (suc k) lt on = free_at i ts h.1 k (omega (arith, lt)) on

-- where a sum is something, one of the composites is
pub sum_some : (s : Source) (i : ℕ) (cs : List Composite) → 1 ≤ inner_sum s i cs → (c : Composite) × Contains cs c × (1 ≤ inner_times s i c)
sum_some s i [] le = absurd (omega (arith, le))
sum_some s i (c ∷ cs) le = elim (cases_lt 0 (inner_times s i c)) [
  | inl here ↦ (c, in_head c cs, omega (arith, here))
  | inr none ↦ let r = sum_some s i cs (omega (arith, le, none)) in (r.0, in_tail c cs r.0 r.1, r.2)
]

-- two of composites that are apart are one, or apart
one_or_apart : (cs : List Composite) → AllApart cs → (c d : Composite) → Contains cs c → Contains cs d → (c ≡ d) ⊎ ((k : ℕ) → is_in c.key.set k ≡ true → is_in d.key.set k ≡ true → ⊥)
one_or_apart [] h c d ac ad = absurd (in_none c ac)
one_or_apart (x ∷ xs) h c d ac ad = elim (in_cons x xs c ac) [
  | inl first ↦ elim (in_cons x xs d ad) [
    | inl second ↦ inl (sym first ∙ second)
    | inr later ↦ inr (λ k a b. in_each (λ (y : Composite). Apart x.key.set y.key.set) xs d h.0 later k (subst (λ (y : Composite). is_in y.key.set k ≡ true) (sym first) a) b)
  ]
  | inr before ↦ elim (in_cons x xs d ad) [
    | inl second ↦ inr (λ k a b. in_each (λ (y : Composite). Apart x.key.set y.key.set) xs c h.0 before k (subst (λ (y : Composite). is_in y.key.set k ≡ true) (sym second) b) a)
    | inr later ↦ one_or_apart xs h.1 c d before later
  ]
]

module _ (run : Run) (rail : ℕ → Bool) (slots : List Slot) where
  -- a net is inner to one of a round's composites at most
  pub new_once : (i : ℕ) (cs : List Composite) → AllApart cs → AllByRecursion (HasOwnNets run rail slots) cs → inner_sum run.source i cs ≤ 1
  new_once i [] a h = omega arith
  new_once i (c ∷ cs) a h = elim (cases_lt 0 (inner_times run.source i c)) [
    | inl here ↦ elim (cases_lt 0 (inner_sum run.source i cs)) [
      | inl more ↦
          let r = sum_some run.source i cs (omega (arith, more)) in
          let on = (in_each (HasOwnNets run rail slots) cs r.0 h.1 r.1).on i r.2 in
          absurd (in_each (λ (d : Composite). Apart c.key.set d.key.set) cs r.0 a.0 r.1 on.0 (h.0.only i (omega (arith, here)) on.0 on.1 on.2) on.3)
      | inr none ↦ omega (arith, h.0.once i, none)
    ]
    | inr none ↦ omega (arith, none, new_once i cs a.1 h.1)
  ]

  -- what holds of composites' devices, and of slots that none took, holds behind them
  place_free : (P : Slot → Type 0) (cs : List Composite) (k : ℕ) (t : Slot) → AllByRecursion (λ (c : Composite). P (composite_slot run c)) cs → (AllByRecursion (λ (c : Composite). is_in c.key.set k ≡ false) cs → P t) → AllByRecursion P (after_at run cs (k, t))
  place_free P cs k t new old = of (find (λ (c : Composite). is_lowest k c.key.set) cs) refl where
    none_any : (ds : List Composite) → list_any (λ (c : Composite). is_in c.key.set k) ds ≡ false → AllByRecursion (λ (c : Composite). is_in c.key.set k ≡ false) ds
    none_any [] e = tt
    none_any (d ∷ ds) e = let p = or_parts (is_in d.key.set k) (list_any (λ (c : Composite). is_in c.key.set k) ds) e in (p.0, none_any ds p.1)

    of : (o : Option Composite) → find (λ (c : Composite). is_lowest k c.key.set) cs ≡ o → AllByRecursion P (after_at run cs (k, t))
    of (Some c) e = rw e (all_found (λ (d : Composite). P (composite_slot run d)) (λ (d : Composite). is_lowest k d.key.set) cs c new e, tt)
    of None e = elim (cases_Bool (list_any (λ (c : Composite). is_in c.key.set k) cs)) [
      | inl on ↦ rw (e, on) tt
      | inr off ↦ rw (e, off) (old (none_any cs off), tt)
    ]

  places_free : (P : Slot → Type 0) (cs : List Composite) (k : ℕ) (ts : List Slot) → AllByRecursion (λ (c : Composite). P (composite_slot run c)) cs → ((j : ℕ) (t : Slot) → j < length ts → slot_device ts j ≡ t.device → AllByRecursion (λ (c : Composite). is_in c.key.set (k + j) ≡ false) cs → P t)
      → AllByRecursion P (flat_map (after_at run cs) (enumerate_from k ts))
  places_free P cs k [] new old = tt
  places_free P cs k (t ∷ ts) new old = all_append P (after_at run cs (k, t)) (flat_map (after_at run cs) (enumerate_from (k + 1) ts))
      (place_free P cs k t new (λ none. old 0 t (omega arith) refl (subst (λ n. AllByRecursion (λ (c : Composite). is_in c.key.set n ≡ false) cs) (let e : k ≡ k + 0 = omega arith in e) none)))
      (places_free P cs (k + 1) ts new (λ j u lt same none. old (suc j) u (omega (arith, lt)) same (subst (λ n. AllByRecursion (λ (c : Composite). is_in c.key.set n ≡ false) cs) (let e : k + 1 + j ≡ k + suc j = omega arith in e) none)))

  -- behind a round an inner image of its composites stands on no device
  pub new_free : (i : ℕ) (cs : List Composite) → AllApart cs → AllByRecursion (HasOwnNets run rail slots) cs → 1 ≤ inner_sum run.source i cs → IsFree i (replaced run cs slots)
  new_free i cs a h le =
      let r = sum_some run.source i cs le in
      let own = in_each (HasOwnNets run rail slots) cs r.0 h r.1 in
      places_free (λ (t : Slot). Contains t.device.nets i → ⊥) cs 0 slots (each r.0 r.1 own r.2) (λ j t lt same none on.
      not_both (is_in r.0.key.set j) (own.only i r.2 j lt (subst (λ (d : Device). Contains d.nets i) (sym same) on))
      (in_each (λ (c : Composite). is_in c.key.set j ≡ false) cs r.0 (subst (λ n. AllByRecursion (λ (c : Composite). is_in c.key.set n ≡ false) cs) (let e : 0 + j ≡ j = omega arith in e) none) r.1))
    where
      of_all : (P : Composite → Type 0) (xs : List Composite) → ((x : Composite) → Contains xs x → P x) → AllByRecursion P xs
      of_all P [] f = tt
      of_all P (x ∷ xs) f = (f x (in_head x xs), of_all P xs (λ y at. f y (in_tail x xs y at)))

      each : (c : Composite) → Contains cs c → HasOwnNets run rail slots c → 1 ≤ inner_times run.source i c → AllByRecursion (λ (d : Composite). Contains (composite_slot run d).device.nets i → ⊥) cs
      each c ac own some = of_all (λ (d : Composite). Contains (composite_slot run d).device.nets i → ⊥) cs (λ d ad on. elim (one_or_apart cs a c d ac ad) [
        | inl same ↦ own.not_bound i some (subst (λ (x : Composite). Contains x.key.binding i) (sym same) on)
        | inr apart ↦ let b = (in_each (HasOwnNets run rail slots) cs d h ad).bound i on in apart b.0 (own.only i some b.0 b.1 b.2) b.3
      ])

  -- and one of composites before stays off
  pub old_free : (i : ℕ) (cs : List Composite) → AllByRecursion (HasOwnNets run rail slots) cs → IsFree i slots → IsFree i (replaced run cs slots) × (inner_sum run.source i cs ≤ 0)
  old_free i cs h free = (
    places_free (λ (t : Slot). Contains t.device.nets i → ⊥) cs 0 slots (each cs h) (λ j t lt same none on. free_at i slots free j lt (subst (λ (d : Device). Contains d.nets i) (sym same) on)),
    (elim (cases_lt 0 (inner_sum run.source i cs)) [
      | inl more ↦
          let r = sum_some run.source i cs (omega (arith, more)) in
          let on = (in_each (HasOwnNets run rail slots) cs r.0 h r.1).on i r.2 in
          absurd (free_at i slots free on.0 on.1 on.2)
      | inr none ↦ none
    ]),
  ) where
    each : (ds : List Composite) → AllByRecursion (HasOwnNets run rail slots) ds → AllByRecursion (λ (d : Composite). Contains (composite_slot run d).device.nets i → ⊥) ds
    each [] k = tt
    each (d ∷ ds) k = ((λ on. let b = k.0.bound i on in free_at i slots free b.0 b.1 b.2), each ds k.1)
