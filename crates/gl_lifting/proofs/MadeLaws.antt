-- The composites of a lawful history: their parts are earlier, and their cells are the library's.
use Rattle.std.proofs.Common.{◌≡◌, ◌<◌, ◌≤◌, ◌+◌, ℕ, zero, suc, List, [], ◌∷◌, ◌++◌, length, map, Option, Some, None, refl, sym, subst, arith, inl, inr}
use Rattle.std.specs.Prelude.{Contains, find, flat_map, zip}
use Rattle.std.specs.List.{AllByRecursion, enumerate_from, list_any}
use Rattle.std.proofs.lemmas.Bool.{cases_Bool}
use Rattle.std.proofs.lemmas.List.{length-append}
use Rattle.gl_text.specs.Decks.{Sub}
use Rattle.gl_match.specs.declared.role.Pick.{Pick}
use Rattle.gl_match.specs.declared.role.Pick.TheVariants.{Taken, Over}
use Rattle.gl_match.specs.declared.spot.Spot.{Spot}
use Rattle.gl_match.specs.Graph.{Device, Circuit, is_in}
use Rattle.gl_match.specs.Listing.{Instance}
use Rattle.gl_base.specs.Rounds.{cells_at, is_searched}
use Rattle.gl_base.specs.Libraries.{Cell}
use Rattle.gl_lifting.specs.Runs.{Run, searched_at, first_circuit}
use Rattle.gl_lifting.specs.Replacement.{base, Slot, Part, Chosen, Composite, origin_at, composite_of, composite_slot, is_lowest, after_at}
use Rattle.gl_lifting.specs.Histories.{Stage, Round, History, IsLawfulRound, IsLawful, IsRoundAt, Follow, circuit_at, first_stage, chosen_in, composites_of, stage_behind}
use Rattle.gl_lifting.proofs.EachLaws.{all_append, all_filter, all_found, all_inside}
use Rattle.gl_lifting.proofs.StageLaws.{MadeFrom, moved_well}
use Rattle.gl_lifting.proofs.VariantLaws.{IsBefore, AreOrdered, still_before, has_still}

-- ---- cells are the library's

-- what is so of cells is so of cells with something beside each
zip_first : {Y : Type 0} (P : Sub → Type 0) (xs : List Sub) (ys : List Y) → AllByRecursion P xs → AllByRecursion (λ (z : Sub × Y). P z.0) (zip xs ys)
zip_first P [] ys h = tt
zip_first P (x ∷ xs) [] h = tt
zip_first P (x ∷ xs) (y ∷ ys) h = (h.0, zip_first P xs ys h.1)

-- and without it again
pub map_first : {Y : Type 0} (P : Sub → Type 0) (zs : List (Sub × Y)) → AllByRecursion (λ (z : Sub × Y). P z.0) zs → AllByRecursion P (map (λ (z : Sub × Y). z.0) zs)
map_first P [] h = tt
map_first P (z ∷ zs) h = (h.0, map_first P zs h.1)

-- searched cells are the library's
pub searched_in : (run : Run) (level : ℕ) → AllByRecursion (Contains run.library.deck.subs) (searched_at run level)
searched_in run level =
    let subs = run.library.deck.subs in
    let P : Sub × Cell → Type 0 = λ z. Contains subs z.0 in
    map_first (Contains subs) _ (all_filter P (λ (z : Sub × Cell). is_searched z.1.skip) (cells_at level run.library)
    (all_filter P _ (zip subs run.library.cells) (zip_first (Contains subs) subs run.library.cells (all_inside subs subs (λ y k. k)))))

-- the cell of one list's chosen instances
one_cell : (P : Sub → Type 0) (cell : Sub) → P cell → (list : List Instance) (picks : List Pick) → AllByRecursion (λ (ch : Chosen). P ch.cell) (chosen_in (cell, (list, picks)))
one_cell P cell h [] picks = tt
one_cell P cell h (i ∷ is) [] = tt
one_cell P cell h (i ∷ is) (Taken k ∷ ps) = (h, one_cell P cell h is ps)
one_cell P cell h (i ∷ is) (Over k ∷ ps) = one_cell P cell h is ps

-- what is so of all cells is so of the chosen instances' cells
pub all_cells : (P : Sub → Type 0) (cells : List Sub) (lists : List (List Instance)) (picks : List (List Pick)) → AllByRecursion P cells → AllByRecursion (λ (ch : Chosen). P ch.cell) (flat_map chosen_in (zip cells (zip lists picks)))
all_cells P [] lists picks h = tt
all_cells P (c ∷ cs) [] picks h = tt
all_cells P (c ∷ cs) (l ∷ ls) [] h = tt
all_cells P (c ∷ cs) (l ∷ ls) (p ∷ ps) h = all_append (λ (ch : Chosen). P ch.cell) (chosen_in (c, (l, p))) (flat_map chosen_in (zip cs (zip ls ps))) (one_cell P c h.0 l p) (all_cells P cs ls ps h.1)

-- and of the composites' cells
pub made_cells : (P : Sub → Type 0) (c : Circuit) (slots : List Slot) (run : Run) (chosen : List Chosen) → AllByRecursion (λ (ch : Chosen). P ch.cell) chosen → AllByRecursion (λ (m : Composite). P m.cell) (map (composite_of c slots run) chosen)
made_cells P c slots run [] h = tt
made_cells P c slots run (d ∷ ds) h = (h.0, made_cells P c slots run ds h.1)

-- ---- parts are earlier

-- a device's origin is before, where those of all slots are
origin_before : (n : ℕ) (slots : List Slot) (dev : ℕ) → AllByRecursion (λ (s : Slot). IsBefore n s.origin) slots → IsBefore n (origin_at slots dev)
origin_before n [] dev h = tt
origin_before n (s ∷ ss) zero h = h.0
origin_before n (s ∷ ss) (suc dev) h = origin_before n ss dev h.1

-- and so are parts
pub spots_before : (n : ℕ) (slots : List Slot) (spots : List Spot) → AllByRecursion (λ (s : Slot). IsBefore n s.origin) slots → AllByRecursion (λ (p : Part). IsBefore n p.origin) (map (λ (s : Spot). record { turn = s.turn; origin = origin_at slots s.dev }) spots)
spots_before n slots [] h = tt
spots_before n slots (s ∷ ss) h = (origin_before n slots s.dev h, spots_before n slots ss h)

-- so the composites of a round are ordered
made_ordered : (n m : ℕ) (c : Circuit) (slots : List Slot) (run : Run) (chosen : List Chosen) → n ≤ m → AllByRecursion (λ (s : Slot). IsBefore n s.origin) slots → AreOrdered m (map (composite_of c slots run) chosen)
made_ordered n m c slots run [] le h = tt
made_ordered n m c slots run (d ∷ ds) le h = (has_still n m _ le (spots_before n slots d.instance.least h), made_ordered n (m + 1) c slots run ds (omega (arith, le)) h)

-- ordered composites behind ordered ones are ordered
ordered_append : (n : ℕ) (xs ys : List Composite) → AreOrdered n xs → AreOrdered (n + length xs) ys → AreOrdered n (xs ++ ys)
ordered_append n [] ys h k = subst (λ m. AreOrdered m ys) (let e : n + 0 ≡ n = omega arith in e) k
ordered_append n (x ∷ xs) ys h k = (h.0, ordered_append (n + 1) xs ys h.1 (subst (λ m. AreOrdered m ys) (let e : n + suc (length xs) ≡ n + 1 + length xs = omega arith in e) k))

-- ---- slots come from what is there

-- new composites are among the first so many
made_before : (n m : ℕ) (run : Run) (cs : List Composite) → 0 < n → MadeFrom n cs → n + length cs ≤ suc m → AllByRecursion (λ (c : Composite). IsBefore m (composite_slot run c).origin) cs
made_before n m run [] up h le = tt
made_before n m run (c ∷ cs) up h le = ((omega (arith, h.0, up), omega (arith, h.0, le)), made_before (n + 1) m run cs (omega arith) h.1 (omega (arith, le)))

-- numbers that run on from those of composites before run on
numbers_append : (n : ℕ) (xs ys : List Composite) → MadeFrom n xs → MadeFrom (n + length xs) ys → MadeFrom n (xs ++ ys)
numbers_append n [] ys h k = subst (λ m. MadeFrom m ys) (let e : n + 0 ≡ n = omega arith in e) k
numbers_append n (x ∷ xs) ys h k = (h.0, numbers_append (n + 1) xs ys h.1 (subst (λ m. MadeFrom m ys) (let e : n + suc (length xs) ≡ n + 1 + length xs = omega arith in e) k))

-- what is so of old slots and of new composites is so of what stands at a place
place_all : (P : Slot → Type 0) (run : Run) (cs : List Composite) (k : ℕ) (s : Slot) → AllByRecursion (λ (c : Composite). P (composite_slot run c)) cs → P s → AllByRecursion P (after_at run cs (k, s))
place_all P run cs k s new old = of (find (λ (c : Composite). is_lowest k c.key.set) cs) refl where
  of : (o : Option Composite) → find (λ (c : Composite). is_lowest k c.key.set) cs ≡ o → AllByRecursion P (after_at run cs (k, s))
  of (Some c) e = rw e (all_found (λ (d : Composite). P (composite_slot run d)) (λ (d : Composite). is_lowest k d.key.set) cs c new e, tt)
  of None e = elim (cases_Bool (list_any (λ (c : Composite). is_in c.key.set k) cs)) [
    | inl on ↦ rw (e, on) tt
    | inr off ↦ rw (e, off) (old, tt)
  ]

-- and of all that stands behind the round
pub places_all : (P : Slot → Type 0) (run : Run) (cs : List Composite) (k : ℕ) (slots : List Slot) → AllByRecursion (λ (c : Composite). P (composite_slot run c)) cs → AllByRecursion P slots → AllByRecursion P (flat_map (after_at run cs) (enumerate_from k slots))
places_all P run cs k [] new old = tt
places_all P run cs k (s ∷ ss) new old = all_append P (after_at run cs (k, s)) (flat_map (after_at run cs) (enumerate_from (k + 1) ss)) (place_all P run cs k s new old.0) (places_all P run cs (k + 1) ss new old.1)

-- what slots come from stays before
slots_still : (n m : ℕ) (slots : List Slot) → n ≤ m → AllByRecursion (λ (s : Slot). IsBefore n s.origin) slots → AllByRecursion (λ (s : Slot). IsBefore m s.origin) slots
slots_still n m [] le h = tt
slots_still n m (s ∷ ss) le h = (still_before n m s.origin le h.0, slots_still n m ss le h.1)

-- ---- histories

-- slots come from what there is, composites' parts are earlier, and their cells are the library's
pub record IsMadeWell (run : Run) (s : Stage) : Type 0 where
  pub slots : AllByRecursion (λ (t : Slot). IsBefore (length s.composites) t.origin) s.slots
  pub ordered : AreOrdered 0 s.composites
  pub cells : AllByRecursion (λ (c : Composite). Contains run.library.deck.subs c.cell) s.composites
  pub numbers : MadeFrom 1 s.composites

-- so it is behind one more round
pub one_round : (run : Run) (level : ℕ) (stage : Stage) (r : Round) → IsMadeWell run stage → IsRoundAt IsLawfulRound run level stage r → IsMadeWell run (stage_behind run (searched_at run level) r)
one_round run level stage r before h =
    let w : IsMadeWell run r.before = subst (λ (s : Stage). IsMadeWell run s) (sym h.begins) before in
    let subs = run.library.deck.subs in
    let cells = searched_at run level in
    let s = r.before in
    let new = composites_of run cells r in
    let chosen = flat_map chosen_in (zip cells (zip r.lists r.picks)) in
    let long = length-append s.composites new in
    let more = length (s.composites ++ new) in
    let numbers : MadeFrom (suc (length s.composites)) new = subst (λ (b : Stage). MadeFrom (suc (length b.composites)) new) (sym h.begins) (moved_well run level stage r h).numbers in
    record {
      slots = places_all (λ (t : Slot). IsBefore more t.origin) run new 0 s.slots (made_before (suc (length s.composites)) more run new (omega arith) numbers (omega (arith, long))) (slots_still (length s.composites) more s.slots (omega (arith, long)) w.slots);
      ordered = ordered_append 0 s.composites new w.ordered (made_ordered (length s.composites) (0 + length s.composites) (circuit_at run s) s.slots run chosen (omega arith) w.slots);
      cells = all_append (λ (c : Composite). Contains subs c.cell) s.composites new w.cells (made_cells (Contains subs) (circuit_at run s) s.slots run chosen (all_cells (Contains subs) cells r.lists r.picks (searched_in run level)));
      numbers = numbers_append 1 s.composites new w.numbers (subst (λ n. MadeFrom n new) (let e : suc (length s.composites) ≡ 1 + length s.composites = omega arith in e) numbers);
    }

-- and behind all
all_rounds : (run : Run) (level : ℕ) (stage last : Stage) (rounds : List Round) → IsMadeWell run stage → Follow IsLawfulRound run level stage rounds last → IsMadeWell run last
all_rounds run level stage last [] w h = subst (λ (s : Stage). IsMadeWell run s) (sym h) w
all_rounds run level stage last (r ∷ rounds) w h = all_rounds run (suc level) (stage_behind run (searched_at run level) r) last rounds (one_round run level stage r w h.0) h.1

-- at first slots are original devices
pub first_before : (k : ℕ) (devices : List Device) → AllByRecursion (λ (t : Slot). IsBefore 0 t.origin) (map (λ (n : ℕ × Device). record { device = n.1; origin = base n.0 }) (enumerate_from k devices))
first_before k [] = tt
first_before k (d ∷ ds) = (tt, first_before (k + 1) ds)

-- so it is with a lawful history's last stage
pub made_well : (run : Run) (h : History) → IsLawful run h → IsMadeWell run h.last
made_well run h lawful = all_rounds run 0 (first_stage run) h.last h.rounds (record { slots = first_before 0 (first_circuit run).devices; ordered = tt; cells = tt; numbers = tt }) lawful.follow
