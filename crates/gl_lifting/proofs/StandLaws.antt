-- Each composite stands somewhere, where the searched cells have cards.
use Rattle.std.proofs.Common.{◌≡◌, ◌<◌, ◌≤◌, ◌∙◌, ◌+◌, ℕ, zero, suc, List, [], ◌∷◌, length, map, filter, cond, eqb, Bool, true, Option, refl, sym, ap, subst, arith, inl, inr}
use Rattle.std.specs.Prelude.{Contains, flat_map, zip}
use Rattle.std.specs.List.{AllByRecursion, AllZip, range_with_len}
use Rattle.std.proofs.lemmas.Bool.{cases_Bool, cases_lt, eqb-true, eq-eqb, ne_eqb}
use Rattle.std.proofs.lemmas.List.{length-map, length-append}
use Rattle.gl_text.specs.Decks.{Body, Sub}
use Rattle.gl_match.specs.declared.spot.Spot.{Spot}
use Rattle.gl_match.specs.Graph.{Device, Circuit, is_in}
use Rattle.gl_match.specs.Keys.{ascending}
use Rattle.gl_match.specs.LegalMaps.{Suits}
use Rattle.gl_match.proofs.Lists.{in_head, in_tail}
use Rattle.gl_base.specs.Libraries.{Cell, Skip, uses_else, empty_else, cell_of}
use Rattle.gl_base.specs.Rounds.{cells_at, is_searched}
use Rattle.gl_lifting.specs.Runs.{Run, pattern_in, searched_at}
use Rattle.gl_lifting.specs.Replacement.{Origin, base, made, Slot, Chosen, Composite, composite_of, is_lowest, replaced}
use Rattle.gl_lifting.specs.Histories.{Stage, Round, History, IsLawfulRound, IsLawful, IsRoundAt, Follow, circuit_at, first_stage, chosen_in, composites_of, stage_behind}
use Rattle.gl_lifting.specs.Chain.{all_origins}
use Rattle.gl_lifting.proofs.EachLaws.{all_filter}
use Rattle.gl_lifting.proofs.Weights.{weight, put_at, taken, made_weight, AllApart, list_step, none_step, put_past}
use Rattle.gl_lifting.proofs.PartWeights.{devices_at, ascending_has}
use Rattle.gl_lifting.proofs.ChosenLaws.{IsLawfulOne}
use Rattle.gl_lifting.proofs.StageLaws.{stage_weight, MadeFrom, parts-append, apart_all, taken_is, round_chosen, moved_well}
use Rattle.gl_lifting.proofs.OnceLaws.{one_made}
use Rattle.gl_lifting.proofs.OriginLaws.{total, origins_total}
use Rattle.gl_lifting.proofs.MadeLaws.{map_first, all_cells}

-- ---- searched cells have cards

-- a list is not empty
abbrev pub HasSome : {X : Type 0} → List X → Type 0
HasSome [] = ⊥
HasSome (x ∷ xs) = Unit {0}

-- a cell that is not skipped has cards
not_skipped : (cards : List Body) (a : Option Skip) (b : Option (List ℕ)) → is_searched (uses_else (empty_else cards a) b) ≡ true → HasSome cards
not_skipped [] a b e = absurd cc
not_skipped (x ∷ xs) a b e = tt

-- so it is with each cell of a library, beside what is told of it
zip_some : (subs xs : List Sub) → AllByRecursion (λ (z : Sub × Cell). is_searched z.1.skip ≡ true → HasSome z.0.cards) (zip xs (map (cell_of subs) xs))
zip_some subs [] = tt
zip_some subs (x ∷ xs) = (λ e. not_skipped x.cards _ _ e, zip_some subs xs)

-- what is so of those that pass is so of the filtered ones
pub all_that : {X : Type 0} (P : X → Type 0) (p : X → Bool) (xs : List X) → AllByRecursion (λ (x : X). p x ≡ true → P x) xs → AllByRecursion P (filter p xs)
all_that P p [] h = tt
all_that {X} P p (x ∷ xs) h = elim (cases_Bool (p x)) [
  | inl on ↦ subst (λ b. AllByRecursion P (cond b (x ∷ filter p xs) (filter p xs))) (sym on) (h.0 on, all_that P p xs h.1)
  | inr off ↦ subst (λ b. AllByRecursion P (cond b (x ∷ filter p xs) (filter p xs))) (sym off) (all_that P p xs h.1)
]

-- the cells are told of as a library's are
abbrev pub IsTold : Run → Type 0
IsTold run = run.library.cells ≡ map (cell_of run.library.deck.subs) run.library.deck.subs

-- so searched cells have cards
pub searched_some : (run : Run) (level : ℕ) → IsTold run → AllByRecursion (λ (s : Sub). HasSome s.cards) (searched_at run level)
searched_some run level told =
    let subs = run.library.deck.subs in
    let Q : Sub × Cell → Type 0 = λ z. is_searched z.1.skip ≡ true → HasSome z.0.cards in
    let all : AllByRecursion Q (zip subs run.library.cells) = subst (λ (cs : List Cell). AllByRecursion Q (zip subs cs)) (sym told) (zip_some subs subs) in
    map_first (λ (s : Sub). HasSome s.cards) _ (all_that (λ (z : Sub × Cell). HasSome z.0.cards) (λ (z : Sub × Cell). is_searched z.1.skip) (cells_at level run.library) (all_filter Q _ (zip subs run.library.cells) all))

-- ---- composites have a lowest device

-- the first device of a set is one of so many
abbrev pub HasLowest : ℕ → List ℕ → Type 0
HasLowest n [] = ⊥
HasLowest n (d ∷ ds) = d < n

-- a list of such devices that has one has a first
has_lowest : (n : ℕ) (xs : List ℕ) (x : ℕ) → AllByRecursion (λ y. y < n) xs → is_in xs x ≡ true → HasLowest n xs
has_lowest n [] x h e = absurd cc
has_lowest n (d ∷ ds) x h e = h.0

-- a range is below its end
range_below : (n a k : ℕ) → a + k ≤ n → AllByRecursion (λ x. x < n) (range_with_len a k)
range_below n a zero le = tt
range_below n a (suc k) le = (omega (arith, le), range_below n (a + 1) k (omega (arith, le)))

-- what a map of some parts has: a device of the circuit
first_spot : (c : Circuit) (parts : List Device) (spots : List Spot) → HasSome parts → AllZip (Suits c) parts spots → (d : ℕ) × (is_in (devices_at spots) d ≡ true) × (d < length c.devices)
first_spot c [] spots some h = absurd some
first_spot c (p ∷ ps) [] some h = absurd h
first_spot c (p ∷ ps) (s ∷ ss) some h = (s.dev, rw (eq-eqb s.dev s.dev refl), h.0.device)

-- cards as devices are as many
map_some : {X Y : Type 0} (f : X → Y) (xs : List X) → HasSome xs → HasSome (map f xs)
map_some f [] h = h
map_some f (x ∷ xs) h = tt

-- a legal map of a cell with cards has a lowest device
lowest_is : (c : Circuit) (slots : List Slot) (run : Run) (ch : Chosen) → c.devices ≡ map (λ (s : Slot). s.device) slots → IsLawfulOne c run ch.cell ch.instance → HasSome ch.cell.cards → HasLowest (length slots) ch.instance.key.set
lowest_is c slots run ch devices lawful some =
    let n = length c.devices in
    let devs = devices_at ch.instance.least in
    let long : n ≡ length slots = ap length devices ∙ length-map slots (λ (s : Slot). s.device) in
    let one = first_spot c (pattern_in run ch.cell).devices ch.instance.least (map_some _ ch.cell.cards some) lawful.0.consistent.suit in
    let low : HasLowest n (ascending n devs) = has_lowest n (ascending n devs) one.0 (all_filter (λ x. x < n) (is_in devs) (range_with_len 0 n) (range_below n 0 n (omega arith))) (ascending_has n devs one.0 one.2 ∙ one.1) in
    subst (λ m. HasLowest m ch.instance.key.set) long (subst (λ (xs : List ℕ). HasLowest n xs) (ap (λ k. k.set) lawful.1) low)

-- and so it is with the composites
pub all_lowest : (c : Circuit) (slots : List Slot) (run : Run) (chosen : List Chosen) → c.devices ≡ map (λ (s : Slot). s.device) slots → AllByRecursion (λ (ch : Chosen). IsLawfulOne c run ch.cell ch.instance) chosen → AllByRecursion (λ (ch : Chosen). HasSome ch.cell.cards) chosen
    → AllByRecursion (λ (m : Composite). HasLowest (length slots) m.key.set) (map (composite_of c slots run) chosen)
all_lowest c slots run [] e h k = tt
all_lowest c slots run (d ∷ ds) e h k = (lowest_is c slots run d e h.0 k.0, all_lowest c slots run ds e h.1 k.1)

-- ---- each composite is put

-- a number of a place is at it
put_exactly : (w d k e : ℕ) (slots : List Slot) → d ≡ k + e → e < length slots → put_at (eqb d) w k slots ≡ w
put_exactly w d k e [] at lt = absurd (omega (arith, lt))
put_exactly w d k zero (s ∷ ss) at lt =
    let here : cond (eqb d k) w 0 ≡ w = ap (λ b. cond b w 0) (eq-eqb d k (omega (arith, at))) in
    omega (arith, here, put_past w d (k + 1) ss (omega (arith, at)))
put_exactly w d k (suc e) (s ∷ ss) at lt =
    let here : cond (eqb d k) w 0 ≡ 0 = ap (λ b. cond b w 0) (ne_eqb d k (λ same. omega (arith, at, same))) in
    omega (arith, here, put_exactly w d (k + 1) e ss (omega (arith, at)) (omega (arith, lt)))

-- so a composite with a lowest device is put
put_lowest : (set : List ℕ) (w : ℕ) (slots : List Slot) → HasLowest (length slots) set → put_at (λ i. is_lowest i set) w 0 slots ≡ w
put_lowest [] w slots h = absurd h
put_lowest (d ∷ ds) w slots h = put_exactly w d 0 d slots (omega arith) h

-- nothing is lost of the slots' weight and the composites'
none_missed : (g : Origin → ℕ) (run : Run) (cs : List Composite) (slots : List Slot) → AllApart cs → AllByRecursion (λ (m : Composite). HasLowest (length slots) m.key.set) cs → weight g slots + made_weight g cs ≤ weight g (replaced run cs slots) + taken g cs slots
none_missed g run [] slots h k = omega (arith, none_step g run 0 slots)
none_missed g run (c ∷ cs) slots h k = omega (arith, list_step g run c cs 0 slots h.0, put_lowest c.key.set (g (made c.number)) slots k.0, none_missed g run cs slots h.1 k.1)

-- ---- histories

-- a number of those that run on weighs
made_in : (number n : ℕ) (cs : List Composite) → MadeFrom n cs → n ≤ number → number < n + length cs → 1 ≤ made_weight (one_made number) cs
made_in number n [] h le lt = absurd (omega (arith, le, lt))
made_in number n (c ∷ cs) h le lt = elim (cases_lt n number) [
  | inl later ↦ omega (arith, made_in number (n + 1) cs h.1 (omega (arith, later)) (omega (arith, lt)))
  | inr here ↦
      let one : cond {A = ℕ} (eqb c.number number) 1 0 ≡ 1 = ap (λ b. cond {A = ℕ} b 1 0) (eq-eqb c.number number (omega (arith, h.0, le, here))) in
      omega (arith, one)
]

-- all that a round made stands behind it, beside what stood before
pub round_stands : (run : Run) (level : ℕ) (stage : Stage) (r : Round) (g : Origin → ℕ) → IsTold run → IsRoundAt IsLawfulRound run level stage r → stage_weight g stage + made_weight g (composites_of run (searched_at run level) r) ≤ stage_weight g (stage_behind run (searched_at run level) r)
round_stands run level stage r g told h =
    let cells = searched_at run level in
    let s = r.before in
    let c = circuit_at run s in
    let chosen = flat_map chosen_in (zip cells (zip r.lists r.picks)) in
    let new = composites_of run cells r in
    let well = round_chosen run level stage r h in
    let some : AllByRecursion (λ (ch : Chosen). HasSome ch.cell.cards) chosen = all_cells (λ (x : Sub). HasSome x.cards) cells r.lists r.picks (searched_some run level told) in
    subst (λ (b : Stage). stage_weight g b + made_weight g new ≤ stage_weight g (stage_behind run cells r)) h.begins
    (omega (arith, none_missed g run new s.slots (apart_all c s.slots run chosen well.apart) (all_lowest c s.slots run chosen refl well.lawful some), taken_is g c s.slots run chosen refl well.lawful, parts-append g s.composites new))

-- a composite that is made stands
abbrev Stands : ℕ → Stage → Type 0
Stands number s = number ≤ length s.composites → 1 ≤ stage_weight (one_made number) s

-- and so behind all rounds
rounds_stand : (run : Run) (number level : ℕ) (stage last : Stage) (rounds : List Round) → IsTold run → Stands number stage → Follow IsLawfulRound run level stage rounds last → Stands number last
rounds_stand run number level stage last [] told s h = subst (λ (l : Stage). Stands number l) (sym h) s
rounds_stand run number level stage last (r ∷ rounds) told s h =
    let cells = searched_at run level in
    let g = one_made number in
    let new = composites_of run cells r in
    let behind = stage_behind run cells r in
    let more = round_stands run level stage r g told h.0 in
    let long : length behind.composites ≡ length stage.composites + length new = length-append r.before.composites new ∙ ap (λ (b : Stage). length b.composites + length new) h.0.begins in
    let next : Stands number behind = λ le. elim (cases_lt (length stage.composites) number) [
      | inl late ↦ omega (arith, more, made_in number (suc (length stage.composites)) new (moved_well run level stage r h.0).numbers (omega (arith, late)) (omega (arith, le, long)))
      | inr early ↦ omega (arith, more, s early)
    ] in
    rounds_stand run number (suc level) behind last rounds told next h.1

-- a composite with weight is told of
made_there : (number : ℕ) (os : List Origin) → 1 ≤ total (one_made number) os → Contains os (made number)
made_there number [] le = absurd (omega (arith, le))
made_there number (base d ∷ os) le = in_tail (base d) os (made number) (made_there number os (omega (arith, le)))
made_there number (made n ∷ os) le = elim (cases_Bool (eqb n number)) [
  | inl on ↦ subst (λ m. Contains (made n ∷ os) (made m)) (eqb-true n number on) (in_head (made n) os)
  | inr off ↦
      let here : cond {A = ℕ} (eqb n number) 1 0 ≡ 0 = ap (λ b. cond {A = ℕ} b 1 0) off in
      in_tail (made n) os (made number) (made_there number os (omega (arith, le, here)))
]

-- in a lawful history each composite weighs something
pub stands_weighed : (run : Run) (h : History) → IsTold run → IsLawful run h → (number : ℕ) → 0 < number → number ≤ length h.last.composites → 1 ≤ stage_weight (one_made number) h.last
stands_weighed run h told lawful number above below = rounds_stand run number 0 (first_stage run) h.last h.rounds told (λ le. absurd (omega (arith, le, above))) lawful.follow below

-- each composite of a lawful history is told of
pub composites_stand : (run : Run) (h : History) → IsTold run → IsLawful run h → (number : ℕ) → 0 < number → number ≤ length h.last.composites → Contains (all_origins h) (made number)
composites_stand run h told lawful number above below =
    made_there number (all_origins h) (omega (arith, stands_weighed run h told lawful number above below, origins_total (one_made number) h))
