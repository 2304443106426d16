-- How deep composites are built: each comes from a round that began with fewer, and whose parts were made before.
use Rattle.std.proofs.Common.{◌≡◌, ◌<◌, ◌≤◌, ◌+◌, ℕ, suc, List, [], ◌∷◌, length, map, cond, ltb, Bool, true, false, Some, sym, ap, subst, arith, inl, inr}
use Rattle.std.specs.Prelude.{Contains, slice_get, flat_map, zip}
use Rattle.std.specs.List.{AllByRecursion}
use Rattle.std.proofs.lemmas.Bool.{cases_Bool, ltb-true, lt-ltb, le-ltb}
use Rattle.std.proofs.lemmas.Option.{slice_get_within}
use Rattle.gl_match.proofs.Lists.{in_cons, in_none, in_head, in_tail}
use Rattle.gl_match.specs.Graph.{Circuit}
use Rattle.gl_lifting.specs.Runs.{Run, searched_at, first_circuit}
use Rattle.gl_lifting.specs.Replacement.{Slot, Chosen, Composite, composite_of}
use Rattle.gl_lifting.specs.Histories.{Stage, Round, History, IsLawfulRound, IsLawful, IsRoundAt, Follow, circuit_at, first_stage, chosen_in, composites_of, stage_behind}
use Rattle.gl_lifting.proofs.VariantLaws.{IsBefore, HasBefore}
use Rattle.gl_lifting.proofs.MadeLaws.{IsMadeWell, spots_before, one_round, first_before}
use Rattle.gl_lifting.proofs.FlatCardLaws.{at_each}
use Rattle.gl_lifting.proofs.SuitedStageLaws.{get_append_cases}

-- how many of some numbers are at most a number
abbrev pub reached : ℕ → List ℕ → ℕ
reached i [] = 0
reached i (b ∷ bs) = cond (ltb i b) 0 1 + reached i bs

-- one number's part
one_reached : (i b : ℕ) → cond {A = ℕ} (ltb i b) 0 1 ≤ 1
one_reached i b = by (ltb i b) where
  by : (t : Bool) → cond {A = ℕ} t 0 1 ≤ 1
  by true = omega arith
  by false = omega arith

at_least : (p i b : ℕ) → p ≤ i → cond {A = ℕ} (ltb p b) 0 1 ≤ cond {A = ℕ} (ltb i b) 0 1
at_least p i b le = elim (cases_Bool (ltb i b)) [
  | inl on ↦
      let below : ltb p b ≡ true = lt-ltb p b (omega (arith, le, ltb-true i b on)) in
      let x : cond {A = ℕ} (ltb p b) 0 1 ≡ 0 = ap (λ t. cond {A = ℕ} t 0 1) below in
      omega (arith, x)
  | inr off ↦
      let x : cond {A = ℕ} (ltb i b) 0 1 ≡ 1 = ap (λ t. cond {A = ℕ} t 0 1) off in
      omega (arith, x, one_reached p b)
]

pub reached_length : (i : ℕ) (bs : List ℕ) → reached i bs ≤ length bs
reached_length i [] = omega arith
reached_length i (b ∷ bs) = omega (arith, one_reached i b, reached_length i bs)

reached_more : (p i : ℕ) (bs : List ℕ) → p ≤ i → reached p bs ≤ reached i bs
reached_more p i [] le = omega arith
reached_more p i (b ∷ bs) le = omega (arith, at_least p i b le, reached_more p i bs le)

-- a number above the one and not above the other tells them apart
pub reached_less : (p i b : ℕ) (bs : List ℕ) → p < b → b ≤ i → Contains bs b → reached p bs < reached i bs
reached_less p i b [] lt le h = absurd (in_none b h)
reached_less p i b (c ∷ bs) lt le h = elim (in_cons c bs b h) [
  | inl same ↦
      let on : ltb p c ≡ true = lt-ltb p c (omega (arith, lt, same)) in
      let off : ltb i c ≡ false = le-ltb i c (omega (arith, le, same)) in
      let x : cond {A = ℕ} (ltb p c) 0 1 ≡ 0 = ap (λ t. cond {A = ℕ} t 0 1) on in
      let y : cond {A = ℕ} (ltb i c) 0 1 ≡ 1 = ap (λ t. cond {A = ℕ} t 0 1) off in
      omega (arith, x, y, reached_more p i bs (omega (arith, lt, le)))
  | inr later ↦ omega (arith, at_least p i c (omega (arith, lt, le)), reached_less p i b bs lt le later)
]

-- and is itself one that is reached
pub reached_some : (i b : ℕ) (bs : List ℕ) → b ≤ i → Contains bs b → 0 < reached i bs
reached_some i b [] le h = absurd (in_none b h)
reached_some i b (c ∷ bs) le h = elim (in_cons c bs b h) [
  | inl same ↦
      let off : ltb i c ≡ false = le-ltb i c (omega (arith, le, same)) in
      let y : cond {A = ℕ} (ltb i c) 0 1 ≡ 1 = ap (λ t. cond {A = ℕ} t 0 1) off in
      omega (arith, y)
  | inr later ↦ omega (arith, reached_some i b bs le later)
]

-- ---- rounds

-- with how many composites rounds begin
abbrev pub sizes_before : List Round → List ℕ
sizes_before rounds = map (λ (r : Round). length r.before.composites) rounds

-- the composite at a place comes from a round that began with so many, at most as many as stand before it, and its parts are among these
pub record IsStaged (all : List ℕ) (place : ℕ) (c : Composite) : Type 0 where
  pub size : ℕ
  pub round : Contains all size
  pub low : size ≤ place
  pub parts : HasBefore size c

abbrev pub AreStaged : List ℕ → List Composite → Type 0
AreStaged all cs = (place : ℕ) (c : Composite) → slice_get cs place ≡ Some c → IsStaged all place c

-- the parts of a round's composites are among those before
new_before : (n : ℕ) (c : Circuit) (slots : List Slot) (run : Run) (chosen : List Chosen) → AllByRecursion (λ (s : Slot). IsBefore n s.origin) slots → AllByRecursion (HasBefore n) (map (composite_of c slots run) chosen)
new_before n c slots run [] h = tt
new_before n c slots run (d ∷ ds) h = (spots_before n slots d.instance.least h, new_before n c slots run ds h)

-- one round
round_staged : (run : Run) (all : List ℕ) (level : ℕ) (stage : Stage) (r : Round) → Contains all (length r.before.composites) → IsMadeWell run stage → AreStaged all stage.composites → IsRoundAt IsLawfulRound run level stage r → AreStaged all (stage_behind run (searched_at run level) r).composites
round_staged run all level stage r there made staged h place c at =
    let s = r.before in
    let old = s.composites in
    let cells = searched_at run level in
    let w : IsMadeWell run s = subst (λ (x : Stage). IsMadeWell run x) (sym h.begins) made in
    let g : AreStaged all old = subst (λ (x : Stage). AreStaged all x.composites) (sym h.begins) staged in
    let each = new_before (length old) (circuit_at run s) s.slots run (flat_map chosen_in (zip cells (zip r.lists r.picks))) w.slots in
    elim (get_append_cases old (composites_of run cells r) place c at) [
      | inl before ↦ g place c before
      | inr new ↦ record { size = length old; round = there; low = omega (arith, new.1); parts = at_each (HasBefore (length old)) (composites_of run cells r) new.0 c each new.2 }
    ]

-- all rounds
rounds_staged : (run : Run) (all : List ℕ) (level : ℕ) (stage last : Stage) (rounds : List Round) → AllByRecursion (λ n. Contains all n) (sizes_before rounds) → IsMadeWell run stage → AreStaged all stage.composites → Follow IsLawfulRound run level stage rounds last → AreStaged all last.composites
rounds_staged run all level stage last [] there made staged h = subst (λ (x : Stage). AreStaged all x.composites) (sym h) staged
rounds_staged run all level stage last (r ∷ rounds) there made staged h = rounds_staged run all (suc level) (stage_behind run (searched_at run level) r) last rounds there.1 (one_round run level stage r made h.0) (round_staged run all level stage r there.0 made staged h.0) h.1

all_there : (bs : List ℕ) (all : List ℕ) → ((b : ℕ) → Contains bs b → Contains all b) → AllByRecursion (λ n. Contains all n) bs
all_there [] all f = tt
all_there (b ∷ bs) all f = (f b (in_head b bs), all_there bs all (λ x k. f x (in_tail b bs x k)))

-- of a lawful history
pub history_staged : (run : Run) (h : History) → IsLawful run h → AreStaged (sizes_before h.rounds) h.last.composites
history_staged run h lawful =
    rounds_staged run (sizes_before h.rounds) 0 (first_stage run) h.last h.rounds (all_there (sizes_before h.rounds) (sizes_before h.rounds) (λ b k. k))
    (record { slots = first_before 0 (first_circuit run).devices; ordered = tt; cells = tt; numbers = tt }) (λ place c e. absurd (let lt = slice_get_within [] place c e in omega (arith, lt))) lawful.follow
