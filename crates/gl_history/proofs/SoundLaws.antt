-- A circuit in which chosen instances stand for what they were found in is not refused.
use Rattle.std.proofs.Common.{◌≡◌, ◌+◌, ◌<◌, ◌≤◌, ℕ, zero, suc, List, [], ◌∷◌, length, map, take, get_or, cond, eqb, ltb, Bool, true, false, Option, Some, None, refl, sym, ap, ◌∙◌, subst, arith, inl, inr}
use Rattle.std.specs.Prelude.{◌⊎◌, not, All, find, flat_map, filter_map, zip, slice_get, slice_index_or}
use Rattle.std.specs.List.{AllZip, AllByRecursion, list_any, enumerate_from}
use Rattle.std.specs.Option.{option_or}
use Rattle.std.proofs.lemmas.Bool.{cases_Bool, or_from, not_from_true, lt-ltb, eq-eqb, eqb-true, ltb-true, false_from_ne_true}
use Rattle.std.proofs.lemmas.List.{get_or-take, length-take}
use Rattle.std.proofs.lemmas.List.Folds.{list_any_none}
use Rattle.std.proofs.lemmas.List.Elements.{All-head, All-tail}
use Rattle.std.proofs.lemmas.Option.{slice_get-get_or}
use Rattle.gl_fault.specs.Refusals.{when}
use Rattle.gl_lists.proofs.Each.{each_append}
use Rattle.gl_match.specs.declared.role.Pick.{Pick}
use Rattle.gl_match.specs.declared.role.Pick.TheVariants.{Taken, Over}
use Rattle.gl_match.specs.Graph.{Device, Circuit, Pattern, is_in, is_some_at}
use Rattle.gl_match.specs.Turns.{turns_of}
use Rattle.gl_match.specs.Listing.{Instance, IsInstance, Listed}
use Rattle.gl_graph.specs.declared.fault.BuildFault.{BuildFault}
use Rattle.gl_graph.specs.declared.fault.BuildFault.TheVariants.{BadNet, BadShape, BadRail, BadPin, Memory}
use Rattle.gl_graph.specs.Built.{IsShape, IsBuilt}
use Rattle.gl_graph.specs.Faults.{first_in, is_bad_shape, shape_fault, net_fault, device_fault, is_bad_rail, rail_fault, pin_fault, circuit_fault}
use Rattle.gl_graph.proofs.FaultLaws.{IsDevice, parts_none}
use Rattle.gl_lifting.specs.Replacement.{Slot, Origin, is_lowest}
use Rattle.gl_match.specs.Cells.{Cell}
use Rattle.gl_history.specs.Plain.{RoundCell, Lifted}
use Rattle.gl_graph.specs.FitCells.{HasPorts, FitsIfAny, IsForCircuit}
use Rattle.gl_history.specs.Searching.{pattern_at, patterns_at, number_at}
use Rattle.gl_history.specs.Replacing.{Chosen, chosen_at, chosen_of_cell, chosen_of, kind_at, slot_by, slots_at, slots_of}
use Rattle.gl_history.specs.Reached.{AreFound, slots_behind}
use Rattle.gl_history.proofs.HistoryLaws.{with_devices}
use Rattle.gl_history.proofs.BindingLaws.{bound}

-- ---- no refusal

no_fault : (test : Bool) (fault : BuildFault) → test ≡ false → when test fault ≡ None
no_fault test fault e = ap (λ b. when b fault) e

neither : (a b : Option BuildFault) → a ≡ None → b ≡ None → option_or a b ≡ None
neither a b x y = ap (λ f. option_or f b) x ∙ y

none_in : {X : Type 0} (fault : ℕ → X → Option BuildFault) (n : ℕ) (xs : List X) → ((k : ℕ) (d : X) → k < length xs → fault (n + k) (get_or xs k d) ≡ None) → first_in fault n xs ≡ None
none_in fault n [] h = refl
none_in fault n (x ∷ xs) h =
    let here : fault n x ≡ None = ap (λ m. fault m x) (omega arith) ∙ h 0 x (omega arith) in
    let rest : first_in fault (n + 1) xs ≡ None = none_in fault (n + 1) xs (λ k d lt. ap (λ m. fault m (get_or xs k d)) (omega arith) ∙ h (suc k) d (omega (arith, lt))) in
    neither (fault n x) (first_in fault (n + 1) xs) here rest

none_from_start : {X : Type 0} (fault : ℕ → X → Option BuildFault) (xs : List X) → ((k : ℕ) (d : X) → k < length xs → fault k (get_or xs k d) ≡ None) → first_in fault 0 xs ≡ None
none_from_start fault xs h = none_in fault 0 xs (λ k d lt. ap (λ m. fault m (get_or xs k d)) (omega arith) ∙ h k d lt)

not_less : (a b : ℕ) → b ≤ a → ltb a b ≡ false
not_less a b le = false_from_ne_true (ltb a b) (λ t. absurd (omega (arith, le, ltb-true a b t)))

-- a device of a type's shape, on nets that there are
device_good : (shapes : List (List ℕ)) (nets dev : ℕ) (d : Device) → IsDevice shapes nets d → device_fault shapes nets dev d ≡ None
device_good shapes nets dev d is =
    neither _ _ (no_fault _ _ (not_from_true _ (lt-ltb d.kind (length shapes) is.kind)))
    (neither _ _ (no_fault _ _ (not_from_true _ (eq-eqb (length d.nets) (length (slice_index_or shapes d.kind [])) is.places)))
    (none_from_start (net_fault nets dev) d.nets (λ k e lt. no_fault _ (BadNet dev k) (not_from_true _ (lt-ltb (get_or d.nets k e) nets (is.below k e lt))))))

some_at : (net : ℕ) (v : Option ℕ) → is_some_at net v ≡ true → v ≡ Some net
some_at net None e = absurd cc
some_at net (Some m) e = ap Some (eqb-true m net e)

module _ (c : Circuit) (built : IsBuilt c) where
  shapes_none : first_in shape_fault 0 c.shapes ≡ None
  shapes_none = none_from_start shape_fault c.shapes (λ k d lt.
      let classes = get_or c.shapes k d in
      let is : IsShape classes = built.shapes k d lt in
      no_fault (is_bad_shape classes) (BadShape k) (or_from (ltb 64 (length classes)) (ltb 720 (length (turns_of classes))) (not_less 64 (length classes) is.places) (not_less 720 (length (turns_of classes)) is.turns)))

  rail_good : (k : ℕ) (v : Option ℕ) → slice_get c.rails k ≡ Some v → is_bad_rail c.nets c.rails k v ≡ false
  rail_good k None e = refl
  rail_good k (Some net) e =
      or_from (not (ltb net c.nets)) (list_any (is_some_at net) (take k c.rails)) (not_from_true (ltb net c.nets) (lt-ltb net c.nets (built.rails k net e)))
      (list_any_none (is_some_at net) (take k c.rails) (λ j d lt.
      let below : j < k = omega (arith, lt, length-take k c.rails) in
      false_from_ne_true (is_some_at net (get_or (take k c.rails) j d)) (λ t.
      let read : get_or (take k c.rails) j d ≡ get_or c.rails j d = get_or-take k c.rails j d below in
      let its : get_or c.rails j d ≡ Some net = sym read ∙ some_at net (get_or (take k c.rails) j d) t in
      let long : j < length c.rails = omega (arith, lt, length-take k c.rails) in
      let same = built.apart j k net (slice_get-get_or c.rails j d long ∙ ap Some its) e in
      absurd (omega (arith, same, below)))))

  rails_none : first_in (rail_fault c.nets c.rails) 0 c.rails ≡ None
  rails_none = none_from_start (rail_fault c.nets c.rails) c.rails (λ k d lt. no_fault (is_bad_rail c.nets c.rails k (get_or c.rails k d)) (BadRail k) (rail_good k (get_or c.rails k d) (slice_get-get_or c.rails k d lt)))

  pins_none : first_in (pin_fault c.nets) 0 c.pinned ≡ None
  pins_none = none_from_start (pin_fault c.nets) c.pinned (λ k d lt. no_fault _ (BadPin k) (not_from_true _ (lt-ltb (get_or c.pinned k d) c.nets (built.pins k d lt))))

  -- other devices that fit are not refused
  others_good : (ds : List Device) → ((k : ℕ) (d : Device) → k < length ds → IsDevice c.shapes c.nets (get_or ds k d)) → circuit_fault (with_devices c ds) ≡ None
  others_good ds each = parts_none (with_devices c ds) shapes_none (none_from_start (device_fault c.shapes c.nets) ds (λ k d lt. device_good c.shapes c.nets k (get_or ds k d) (each k d lt))) rails_none pins_none

-- ---- what is chosen fits

-- a device of a circuit fits it
abbrev IsGood : Circuit → Slot → Type 0
IsGood c s = IsDevice c.shapes c.nets s.device

-- a cell's type and pattern, for a circuit
pub record IsFor (c : Circuit) (kind : ℕ) (p : Pattern) : Type 0 where
  pub kind_in : kind < length c.shapes
  pub ports_fit : HasPorts c kind p

-- the cells that are searched, by their numbers
searched_for : (c : Circuit) (level : ℕ) (all : List Cell) (k : ℕ) (cells : List Cell) → ((j : ℕ) (d : Cell) → j < length cells → kind_at all (k + j) ≡ (get_or cells j d).kind) → All (IsForCircuit c) cells
    → AllZip (λ n p. IsFor c (kind_at all n) p) (filter_map (number_at level) (enumerate_from k cells)) (filter_map (pattern_at level) cells)
searched_for c level all k [] h fit = tt
searched_for c level all k (cell ∷ cells) h fit = by (eqb cell.level level) cell.pattern refl refl (All-head (IsForCircuit c) cell cells fit).pattern (searched_for c level all (k + 1) cells (λ j d lt. ap (kind_at all) (omega arith) ∙ h (suc j) d (omega (arith, lt))) (All-tail (IsForCircuit c) cell cells fit))
  where
    first : kind_at all k ≡ cell.kind
    first = ap (kind_at all) (omega arith) ∙ h 0 cell (omega arith)

    own : cell.kind < length c.shapes
    own = (All-head (IsForCircuit c) cell cells fit).kind

    by : (b : Bool) (o : Option Pattern) → eqb cell.level level ≡ b → cell.pattern ≡ o → FitsIfAny c cell.kind o
        → AllZip (λ n p. IsFor c (kind_at all n) p) (filter_map (number_at level) (enumerate_from (k + 1) cells)) (filter_map (pattern_at level) cells)
        → AllZip (λ n p. IsFor c (kind_at all n) p) (filter_map (number_at level) (enumerate_from k (cell ∷ cells))) (filter_map (pattern_at level) (cell ∷ cells))
    by false o e f fits later = rw e later
    by true None e f fits later = rw e (rw f later)
    by true (Some p) e f fits later = rw e (rw f (record { kind_in = subst (λ n. n < length c.shapes) (sym first) own; ports_fit = subst (λ n. HasPorts c n p) (sym first) fits }, later))

-- the slots of what was chosen of a cell
cell_good : (c : Circuit) (kind : ℕ) (p : Pattern) → IsBuilt c → IsFor c kind p → (list : List Instance) (picks : List Pick) → All (IsInstance c p) list
    → AllByRecursion (λ (x : Chosen). IsGood c x.slot) (filter_map (chosen_at kind) (zip list picks))
cell_good c kind p built for_it [] picks h = tt
cell_good c kind p built for_it (i ∷ list) [] h = tt
cell_good c kind p built for_it (i ∷ list) (Taken number ∷ picks) h =
    let ports = for_it.ports_fit in
    let binding = bound c p i built ports.built ports.fits (All-head (IsInstance c p) i list h) in
    (record { kind = for_it.kind_in; places = binding.places ∙ ports.ports; below = binding.below }, cell_good c kind p built for_it list picks (All-tail (IsInstance c p) i list h))
cell_good c kind p built for_it (i ∷ list) (Over number ∷ picks) h = cell_good c kind p built for_it list picks (All-tail (IsInstance c p) i list h)

-- and of all cells
chosen_good : (c : Circuit) (cells : List Cell) (patterns : List Pattern) (found : List RoundCell) → IsBuilt c → AllZip (λ n p. IsFor c (kind_at cells n) p) (map (λ (f : RoundCell). f.cell) found) patterns
    → AllZip (Listed c) patterns (map (λ (f : RoundCell). f.list) found) → AllByRecursion (λ (x : Chosen). IsGood c x.slot) (chosen_of cells found)
chosen_good c cells [] [] built h k = tt
chosen_good c cells [] (f ∷ found) built h k = absurd k
chosen_good c cells (p ∷ patterns) [] built h k = absurd k
chosen_good c cells (p ∷ patterns) (f ∷ found) built h k =
    each_append (λ (x : Chosen). IsGood c x.slot) (chosen_of_cell cells f) (chosen_of cells found)
    (cell_good c (kind_at cells f.cell) p built h.0 f.list f.picks k.0.each) (chosen_good c cells patterns found built h.1 k.1)

-- ---- all that stands behind

-- what is found, if anything is
abbrev OfFound : (Slot → Type 0) → Option Chosen → Type 0
OfFound P None = Unit {0}
OfFound P (Some x) = P x.slot

found_good : (P : Slot → Type 0) (test : Chosen → Bool) (chosen : List Chosen) → AllByRecursion (λ (x : Chosen). P x.slot) chosen → OfFound P (find test chosen)
found_good P test [] h = tt
found_good P test (x ∷ chosen) h = elim (cases_Bool (test x)) [
  | inl on ↦ subst (λ b. OfFound P (cond b (Some x) (find test chosen))) (sym on) h.0
  | inr off ↦ subst (λ b. OfFound P (cond b (Some x) (find test chosen))) (sym off) (found_good P test chosen h.1)
]

place_good : (P : Slot → Type 0) (o : Option Chosen) (had : Bool) (s : Slot) → OfFound P o → P s → AllByRecursion P (slot_by o had s)
place_good P (Some x) had s h own = (h, tt)
place_good P None true s h own = tt
place_good P None false s h own = (own, tt)

behind_good : (P : Slot → Type 0) (chosen : List Chosen) → AllByRecursion (λ (x : Chosen). P x.slot) chosen → (k : ℕ) (slots : List Slot) → AllByRecursion P slots → AllByRecursion P (flat_map (slots_at chosen) (enumerate_from k slots))
behind_good P chosen h k [] own = tt
behind_good P chosen h k (s ∷ slots) own =
    each_append P (slots_at chosen (k, s)) (flat_map (slots_at chosen) (enumerate_from (k + 1) slots))
    (place_good P (find (λ (x : Chosen). is_lowest k x.set) chosen) (list_any (λ (x : Chosen). is_in x.set k) chosen) s (found_good P (λ (x : Chosen). is_lowest k x.set) chosen h) own.0)
    (behind_good P chosen h (k + 1) slots own.1)

-- the devices of slots that hold
read_each : (shapes : List (List ℕ)) (nets : ℕ) (slots : List Slot) → AllByRecursion (λ (s : Slot). IsDevice shapes nets s.device) slots → (k : ℕ) (d : Device) → k < length (map (λ (s : Slot). s.device) slots) → IsDevice shapes nets (get_or (map (λ (s : Slot). s.device) slots) k d)
read_each shapes nets [] h k d lt = absurd (omega (arith, lt))
read_each shapes nets (s ∷ slots) h zero d lt = h.0
read_each shapes nets (s ∷ slots) h (suc k) d lt = read_each shapes nets slots h.1 k d (omega (arith, lt))

-- the devices of a circuit that was built
circuit_good : (c : Circuit) (ds : List Device) (os : List Origin) → ((k : ℕ) (d : Device) → k < length ds → IsDevice c.shapes c.nets (get_or ds k d)) → AllByRecursion (IsGood c) (slots_of ds os)
circuit_good c [] os h = tt
circuit_good c (d ∷ ds) [] h = tt
circuit_good c (d ∷ ds) (o ∷ os) h = (h 0 d (omega arith), circuit_good c ds os (λ k e lt. h (suc k) e (omega (arith, lt))))

-- the circuit behind a round is not refused
pub behind_unrefused : (level first : ℕ) (cells : List Cell) (before : Lifted) (found : List RoundCell) → IsBuilt before.last → All (IsForCircuit before.last) cells → AreFound before.last first cells level found
    → circuit_fault (with_devices before.last (map (λ (s : Slot). s.device) (slots_behind cells before found))) ≡ None
behind_unrefused level first cells before found built fit are =
    let c = before.last in
    let for_all = searched_for c level cells 0 cells (λ j d lt. kinds cells j d lt) fit in
    let chosen = chosen_good c cells (patterns_at level cells) found built (subst (λ ns. AllZip (λ n p. IsFor c (kind_at cells n) p) ns (patterns_at level cells)) (sym are.numbers) for_all) are.round.complete in
    let old = circuit_good c c.devices before.last_origins (λ k d lt. let shape = built.devices k d lt in record { kind = shape.kind; places = shape.places; below = built.nets k d lt }) in
    let slots = behind_good (IsGood c) (chosen_of cells found) chosen 0 (slots_of c.devices before.last_origins) old in
    others_good c built (map (λ (s : Slot). s.device) (slots_behind cells before found)) (read_each c.shapes c.nets (slots_behind cells before found) slots)
  where
    kinds : (cs : List Cell) (j : ℕ) (d : Cell) → j < length cs → kind_at cs (0 + j) ≡ (get_or cs j d).kind
    kinds [] j d lt = absurd (omega (arith, lt))
    kinds (x ∷ cs) zero d lt = refl
    kinds (x ∷ cs) (suc j) d lt = let next : 0 + suc j ≡ suc (0 + j) = omega arith in ap (kind_at (x ∷ cs)) next ∙ kinds cs j d (omega (arith, lt))

-- where there is no refusal, a fault is want of memory
pub only_memory : (refusal : Option BuildFault) (fault : BuildFault) → refusal ≡ None → (fault ≡ Memory) ⊎ (refusal ≡ Some fault) → fault ≡ Memory
only_memory refusal fault none (inl memory) = memory
only_memory refusal fault none (inr some) = absurd cc
