-- How many composites a history has: in each round at most as many as there were devices at first.
use Rattle.std.proofs.Common.{◌≡◌, ◌≤◌, ◌<◌, ◌+◌, ◌*◌, ℕ, suc, List, [], ◌∷◌, length, map, true, Option, None, Some, refl, ap, subst, arith, inl, inr, length-append}
use Rattle.std.specs.Prelude.{find, flat_map, zip}
use Rattle.std.specs.List.{AllByRecursion, enumerate_from, list_any, range_with_len}
use Rattle.std.proofs.lemmas.Bool.{cases_Bool, eq-eqb}
use Rattle.std.proofs.lemmas.List.{length-map}
use Rattle.std.proofs.lemmas.List.FromFn.{length-range_with_len}
use Rattle.gl_match.specs.Graph.{Device, is_in}
use Rattle.gl_match.proofs.Lists.{Once, from_map, once_range}
use Rattle.gl_match.proofs.AtLaws.{in_range}
use Rattle.gl_text.specs.Decks.{Sub}
use Rattle.gl_base.specs.BaseCircuit.{nets_of, device_of}
use Rattle.gl_base.proofs.OnceLaws.{no_more}
use Rattle.gl_lifting.specs.Runs.{Run, searched_at, first_circuit}
use Rattle.gl_lifting.specs.Replacement.{base, Slot, Chosen, Composite, is_lowest, after_at}
use Rattle.gl_lifting.specs.Histories.{Stage, Round, History, IsLawfulRound, IsLawful, IsRoundAt, Follow, circuit_at, first_stage, chosen_in, composites_of, stage_behind}
use Rattle.gl_lifting.proofs.Weights.{Apart, AllApart}
use Rattle.gl_lifting.proofs.StageLaws.{apart_all, round_chosen}
use Rattle.gl_lifting.proofs.MadeLaws.{all_cells}
use Rattle.gl_lifting.proofs.StandLaws.{IsTold, HasSome, HasLowest, searched_some, all_lowest}
use Rattle.gl_lifting.proofs.FlatCardLaws.{in_each}

-- ---- slots do not grow

at_one : (run : Run) (cs : List Composite) (z : ℕ × Slot) → length (after_at run cs z) ≤ 1
at_one run cs z = by (find (λ (c : Composite). is_lowest z.0 c.key.set) cs) refl where
  by : (o : Option Composite) → find (λ (c : Composite). is_lowest z.0 c.key.set) cs ≡ o → length (after_at run cs z) ≤ 1
  by (Some c) e = rw e (omega arith)
  by None e = elim (cases_Bool (list_any (λ (c : Composite). is_in c.key.set z.0) cs)) [
    | inl on ↦ rw (e, on) (omega arith)
    | inr off ↦ rw (e, off) (omega arith)
  ]

fewer : (run : Run) (cs : List Composite) (k : ℕ) (slots : List Slot) → length (flat_map (after_at run cs) (enumerate_from k slots)) ≤ length slots
fewer run cs k [] = omega arith
fewer run cs k (s ∷ ss) = omega (arith, length-append (after_at run cs (k, s)) (flat_map (after_at run cs) (enumerate_from (k + 1) ss)), at_one run cs (k, s), fewer run cs (k + 1) ss)

-- ---- composites of a round are apart

-- the first device of a set
abbrev lowest_in : List ℕ → ℕ
lowest_in [] = 0
lowest_in (d ∷ ds) = d

lowest_there : (n : ℕ) (set : List ℕ) → HasLowest n set → (lowest_in set < n) × (is_in set (lowest_in set) ≡ true)
lowest_there n [] h = absurd h
lowest_there n (d ∷ ds) h = (h, rw (eq-eqb d d refl) refl)

lows_once : (n : ℕ) (cs : List Composite) → AllApart cs → AllByRecursion (λ (m : Composite). HasLowest n m.key.set) cs → Once (map (λ (m : Composite). lowest_in m.key.set) cs)
lows_once n [] a h = tt
lows_once n (c ∷ cs) a h = (
  (λ at.
      let r = from_map (λ (m : Composite). lowest_in m.key.set) cs (lowest_in c.key.set) at in
      let own = lowest_there n c.key.set h.0 in
      let other = lowest_there n r.0.key.set (in_each (λ (m : Composite). HasLowest n m.key.set) cs r.0 h.1 r.1) in
      in_each (λ (d : Composite). Apart c.key.set d.key.set) cs r.0 a.0 r.1 (lowest_in c.key.set) own.1 (subst (λ d. is_in r.0.key.set d ≡ true) r.2 other.1)),
  lows_once n cs a.1 h.1,
)

few_new : (n : ℕ) (cs : List Composite) → AllApart cs → AllByRecursion (λ (m : Composite). HasLowest n m.key.set) cs → length cs ≤ n
few_new n cs a h =
    let lows = map (λ (m : Composite). lowest_in m.key.set) cs in
    let most = no_more lows (range_with_len 0 n) (lows_once n cs a h) (once_range 0 n) (λ d at.
    let r = from_map (λ (m : Composite). lowest_in m.key.set) cs d at in
    in_range n d (subst (λ x. x < n) r.2 (lowest_there n r.0.key.set (in_each (λ (m : Composite). HasLowest n m.key.set) cs r.0 h r.1)).0)) in
    omega (arith, most, length-map cs (λ (m : Composite). lowest_in m.key.set), length-range_with_len 0 n)

-- one round
round_few : (run : Run) (level : ℕ) (stage : Stage) (r : Round) → IsTold run → IsRoundAt IsLawfulRound run level stage r → length (composites_of run (searched_at run level) r) ≤ length stage.slots
round_few run level stage r told h =
    let cells = searched_at run level in
    let s = r.before in
    let c = circuit_at run s in
    let chosen = flat_map chosen_in (zip cells (zip r.lists r.picks)) in
    let well = round_chosen run level stage r h in
    let some : AllByRecursion (λ (ch : Chosen). HasSome ch.cell.cards) chosen = all_cells (λ (x : Sub). HasSome x.cards) cells r.lists r.picks (searched_some run level told) in
    subst (λ (b : Stage). length (composites_of run cells r) ≤ length b.slots) h.begins (few_new (length s.slots) (composites_of run cells r) (apart_all c s.slots run chosen well.apart) (all_lowest c s.slots run chosen refl well.lawful some))

-- ---- all rounds

-- as many for each round
abbrev pub each_round : ℕ → List Round → ℕ
each_round n [] = 0
each_round n (r ∷ rs) = n + each_round n rs

rounds_few : (n : ℕ) (run : Run) (level : ℕ) (stage last : Stage) (rounds : List Round) → IsTold run → length stage.slots ≤ n → Follow IsLawfulRound run level stage rounds last → length last.composites ≤ length stage.composites + each_round n rounds
rounds_few n run level stage last [] told le h = let e = ap (λ (s : Stage). length s.composites) h in omega (arith, e)
rounds_few n run level stage last (r ∷ rounds) told le h =
    let cells = searched_at run level in
    let new = composites_of run cells r in
    let behind = stage_behind run cells r in
    let before_slots = ap (λ (s : Stage). length s.slots) h.0.begins in
    let before = ap (λ (s : Stage). length s.composites) h.0.begins in
    let later = rounds_few n run (suc level) behind last rounds told (omega (arith, le, before_slots, fewer run new 0 r.before.slots)) h.1 in
    omega (arith, later, length-append r.before.composites new, before, le, round_few run level stage r told h.0)

first_length : (k : ℕ) (devices : List Device) → length {A = Slot} (map (λ (n : ℕ × Device). record { device = n.1; origin = base n.0 }) (enumerate_from k devices)) ≡ length devices
first_length k [] = refl
first_length k (d ∷ ds) = ap suc (first_length (k + 1) ds)

-- of a lawful history
pub composites_few : (n : ℕ) (run : Run) (h : History) → IsTold run → IsLawful run h → length run.source.devices ≤ n → length h.last.composites ≤ each_round n h.rounds
composites_few n run h told lawful le =
    let long : length (first_circuit run).devices ≡ length run.source.devices = length-map run.source.devices (device_of run.source (nets_of run.source.devices)) in
    let first = first_length 0 (first_circuit run).devices in
    omega (arith, rounds_few n run 0 (first_stage run) h.last h.rounds told (omega (arith, first, long, le)) lawful.follow)

pub each_most : (rounds : List Round) → each_round 200000 rounds ≡ length rounds * 200000
each_most [] = refl
each_most (r ∷ rs) = omega (arith, each_most rs)

pub each_none : (rounds : List Round) → each_round 0 rounds ≡ 0
each_none [] = refl
each_none (r ∷ rs) = omega (arith, each_none rs)
