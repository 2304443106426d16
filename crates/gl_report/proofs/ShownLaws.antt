-- What is told of rounds by numbers of cells is what is told of a history.
use Rattle.std.proofs.Common.{◌≡◌, ◌+◌, ◌<◌, ℕ, zero, suc, List, [], ◌∷◌, ◌++◌, length, map, filter, cond, eqb, get_or, drop, Bool, true, false, Option, None, Some, refl, sym, ap, ◌∙◌, arith}
use Rattle.std.specs.Prelude.{◌==◌, filter_map, flat_map, zip, option_map, Result, Ok, Err, IfErr}
use Rattle.std.specs.Result.{IsErrAnd}
use Rattle.std.proofs.Math.Path.{subst}
use Rattle.std.specs.List.{AllZip, enumerate_from, range_with_len, cons_option}
use Rattle.std.proofs.lemmas.Bool.{eq-eqb, ne_eqb}
use Rattle.std.proofs.lemmas.List.Sums.{sum_by-cons}
use Rattle.gl_text.specs.Decks.{Sub}
use Rattle.gl_text.specs.Flattening.{Flat, device_name}
use Rattle.gl_match.specs.declared.role.Pick.{Pick}
use Rattle.gl_match.specs.Cells.{Cell}
use Rattle.gl_match.specs.Graph.{Device}
use Rattle.gl_match.specs.Listing.{Instance}
use Rattle.gl_base.specs.BaseCircuit.{nets_of}
use Rattle.gl_base.specs.Libraries as libraries
use Rattle.gl_base.specs.Rounds.{cells_at, cards_of}
use Rattle.gl_base.specs.RoundReports.{CellPart, found, skipped, RoundPart, cell_parts, report_text}
use Rattle.gl_lifting.specs.Runs.{Run, run_of}
use Rattle.gl_lifting.specs.Replacement.{Origin, base, made, Slot}
use Rattle.gl_lifting.specs.Histories as histories
use Rattle.gl_lifting.specs.HistoryReports.{origin_name, slot_names, round_part, rounds_report, history_report, is_original, left_in}
use Rattle.gl_lifting.specs.SearchedCells.{AreCells, cell_in, pattern_unless}
use Rattle.gl_history.specs.Plain.{RoundCell, Round, Lifted}
use Rattle.gl_history.specs.Searching.{number_at, numbers_at, rounds_of}
use Rattle.gl_history.specs.Shown.{Shows, IsLifted}
use Rattle.gl_found.specs.Founds.{IsRunOf}
use Rattle.gl_limit.specs.Bounds.{Tells}
use Rattle.gl_limit.specs.declared.fault.WriteFault.{WriteFault}
use Rattle.gl_report.specs.Naming.{RoundNames, names_by}
use Rattle.gl_report.specs.Shown.{found_of, told_by, told_at, told_of, shown_part, shown_report, is_base, left_of}

-- ---- cells

-- a cell of a higher number is found behind
found_behind : (f : RoundCell) (fs : List RoundCell) (k n : ℕ) → f.cell ≡ k → k < n → found_of n (f ∷ fs) ≡ found_of n fs
found_behind f fs k n e lt = ap (λ (b : Bool). cond b (Some f) (found_of n fs)) (ne_eqb f.cell n (λ same. omega (arith, same, e, lt)))

told_behind : (level : ℕ) (f : RoundCell) (fs : List RoundCell) (k n : ℕ) (cs : List (Sub × libraries.Cell)) → f.cell ≡ k → k < n → flat_map (told_at level (f ∷ fs)) (enumerate_from n cs) ≡ flat_map (told_at level fs) (enumerate_from n cs)
told_behind level f fs k n [] e lt = refl
told_behind level f fs k n (c ∷ cs) e lt =
    ap (λ (o : Option RoundCell). cond (eqb c.1.level level) (told_by c.0 c.1.skip o) [] ++ flat_map (told_at level (f ∷ fs)) (enumerate_from (n + 1) cs)) (found_behind f fs k n e lt)
    ∙ ap (λ (rest : List CellPart). told_at level fs (n, c) ++ rest) (told_behind level f fs k (n + 1) cs e (omega (arith, lt)))

-- the lists with their picks
lists_with : List RoundCell → List (List Instance × List Pick)
lists_with fs = zip (map (λ (f : RoundCell). f.list) fs) (map (λ (f : RoundCell). f.picks) fs)

-- the numbers of the searched cells of a level, from a number on
numbers_from : Run → ℕ → ℕ → List (Sub × libraries.Cell) → List ℕ
numbers_from run level k cs = filter_map (number_at level) (enumerate_from k (map (cell_in run) cs))

cells_of : List RoundCell → List ℕ
cells_of fs = map (λ (f : RoundCell). f.cell) fs

told_from : (run : Run) (level k : ℕ) (cs : List (Sub × libraries.Cell)) (fs : List RoundCell) → cells_of fs ≡ numbers_from run level k cs → flat_map (told_at level fs) (enumerate_from k cs) ≡ cell_parts (filter (λ c. c.1.level == level) cs) (lists_with fs)
unfolding lists_with numbers_from cells_of
told_from run level k [] fs e = refl
told_from run level k (c ∷ cs) fs e = by (eqb c.1.level level) c.1.skip refl refl fs e (told_from run level (k + 1) cs)
  where
    -- the numbers, where it is known whether the cell is of the level, and why it is skipped
    known : (b : Bool) (o : Option libraries.Skip) → eqb c.1.level level ≡ b → c.1.skip ≡ o → numbers_from run level k (c ∷ cs) ≡ cons_option (option_map (λ p. k) (cond b (pattern_unless run c.0 o) None)) (numbers_from run level (k + 1) cs)
    known b o g h = rw g (rw h refl)

    by : (b : Bool) (o : Option libraries.Skip) → eqb c.1.level level ≡ b → c.1.skip ≡ o → (fs : List RoundCell) → cells_of fs ≡ numbers_from run level k (c ∷ cs)
        → ((gs : List RoundCell) → cells_of gs ≡ numbers_from run level (k + 1) cs → flat_map (told_at level gs) (enumerate_from (k + 1) cs) ≡ cell_parts (filter (λ c. c.1.level == level) cs) (lists_with gs))
        → flat_map (told_at level fs) (enumerate_from k (c ∷ cs)) ≡ cell_parts (filter (λ c. c.1.level == level) (c ∷ cs)) (lists_with fs)
    by false o g h fs e later = rw g (later fs (e ∙ known false o g h))
    by true (Some skip) g h fs e later = rw g (rw h (ap (λ (ps : List CellPart). skipped c.0.head.name skip ∷ ps) (later fs (e ∙ known true (Some skip) g h))))
    by true None g h [] e later = absurd (omega (arith, ap length (e ∙ known true None g h)))
    by true None g h (f ∷ fs) e later =
        let both = e ∙ known true None g h in
        let own : f.cell ≡ k = ap (λ (ns : List ℕ). get_or ns 0 0) both in
        let others : cells_of fs ≡ numbers_from run level (k + 1) cs = ap (drop 1) both in
        let first : found_of k (f ∷ fs) ≡ Some f = ap (λ (b : Bool). cond b (Some f) (found_of k fs)) (eq-eqb f.cell k own) in
        rw g (rw h (
        ap (λ (o : Option RoundCell). told_by c.0 None o ++ flat_map (told_at level (f ∷ fs)) (enumerate_from (k + 1) cs)) first
        ∙ ap (λ (ps : List CellPart). found c.0 f.list f.picks ∷ ps) (told_behind level f fs k (k + 1) cs own (omega arith) ∙ later fs others)))

-- ---- rounds

names_are : (stem : List ℕ) (devices : List (List ℕ)) (slots : List Slot) → map (origin_name stem devices) (map (λ (s : Slot). s.origin) slots) ≡ slot_names stem devices slots
names_are stem devices [] = refl
names_are stem devices (s ∷ slots) = ap (λ (ns : List (List ℕ)). origin_name stem devices s.origin ∷ ns) (names_are stem devices slots)

part_with : List (List ℕ) → List CellPart → RoundPart
part_with devices cells = record { devices = devices; cells = cells }

module _ (run : Run) (cells : List Cell) (names : RoundNames) (are : AreCells run cells) where
  -- a round is reported as that of the history
  part_is : (level : ℕ) (told : histories.Round) (shown : Round) → Shows run told shown → map (λ (f : RoundCell). f.cell) shown.cells ≡ numbers_at level cells → shown_part names run.library (level, shown) ≡ round_part names.run.stem names.devices run.library (level, told)
  unfolding part_with lists_with numbers_from cells_of
  part_is level told shown shows numbers =
      let all = zip run.library.deck.subs run.library.cells in
      let devices : names_by names shown.origins ≡ slot_names names.run.stem names.devices told.before.slots = ap (map (origin_name names.run.stem names.devices)) shows.origins ∙ names_are names.run.stem names.devices told.before.slots in
      let by_number : cells_of shown.cells ≡ numbers_from run level 0 all = numbers ∙ ap (numbers_at level) are.each in
      let lists : lists_with shown.cells ≡ zip told.lists told.picks = ap (λ (ls : List (List Instance)). zip ls (map (λ (f : RoundCell). f.picks) shown.cells)) shows.lists ∙ ap (zip told.lists) shows.picks in
      let parts : told_of level all shown.cells ≡ cell_parts (cells_at level run.library) (zip told.lists told.picks) = told_from run level 0 all shown.cells by_number ∙ ap (cell_parts (cells_at level run.library)) lists in
      ap (λ (ds : List (List ℕ)). part_with ds (told_of level all shown.cells)) devices ∙ ap (part_with (slot_names names.run.stem names.devices told.before.slots)) parts

  parts_are : (level n : ℕ) (hs : List histories.Round) (ls : List Round) → AllZip (Shows run) hs ls → map (λ (r : Round). map (λ (f : RoundCell). f.cell) r.cells) ls ≡ map (λ k. numbers_at k cells) (range_with_len level n) → map (shown_part names run.library) (enumerate_from level ls) ≡ map (round_part names.run.stem names.devices run.library) (enumerate_from level hs)
  parts_are level n [] [] all e = refl
  parts_are level n [] (l ∷ ls) all e = absurd all
  parts_are level n (h ∷ hs) [] all e = absurd all
  parts_are level zero (h ∷ hs) (l ∷ ls) all e = absurd (omega (arith, ap length e))
  parts_are level (suc n) (h ∷ hs) (l ∷ ls) all e =
      ap (λ (p : RoundPart). p ∷ map (shown_part names run.library) (enumerate_from (level + 1) ls)) (part_is level h l all.0 (ap (λ (ns : List (List ℕ)). get_or ns 0 []) e))
      ∙ ap (λ (ps : List RoundPart). round_part names.run.stem names.devices run.library (level, h) ∷ ps) (parts_are (level + 1) n hs ls all.1 (ap (drop 1) e))

-- the report of the rounds is that of the history
pub report_is : (run : Run) (cells : List Cell) (lifted : Lifted) (names : RoundNames) (left : ℕ) → AreCells run cells → (is : IsLifted run cells lifted) → shown_report names run.library lifted.rounds left ≡ rounds_report names.run names.devices run.library is.history.rounds left
report_is run cells lifted names left are is = ap (λ (ps : List RoundPart). report_text names.run ps left) (parts_are run cells names are 0 (rounds_of cells) is.history.rounds lifted.rounds is.rounds is.numbers)

-- ---- what is left

original_is : (d : Device) (o : Origin) → is_base o ≡ is_original (record { device = d; origin = o })
original_is d (base dev) = refl
original_is d (made number) = refl

count_is : (slots : List Slot) → left_of (map (λ (s : Slot). s.origin) slots) ≡ left_in slots
count_is [] = refl
count_is (s ∷ slots) =
    sum_by-cons (λ (o : Origin). cond (is_base o) 1 0) s.origin (map (λ (t : Slot). t.origin) slots)
    ∙ (ap (λ (n : ℕ). cond (is_base s.origin) 1 0 + n) (count_is slots)
    ∙ (ap (λ (b : Bool). cond b 1 0 + left_in slots) (original_is s.device s.origin)
    ∙ sym (sum_by-cons (λ (t : Slot). cond (is_original t) 1 0) s slots)))

-- as many devices are left as in the history
pub left_is : (run : Run) (cells : List Cell) (lifted : Lifted) (is : IsLifted run cells lifted) → left_of lifted.last_origins ≡ left_in is.history.last.slots
left_is run cells lifted is = ap left_of is.last_origins ∙ count_is is.history.last.slots

-- ---- runs

-- the names of the first circuit
abbrev pub first_names : List ℕ → Flat → RoundNames
first_names stem flat = record { run = record { stem = stem; nets = nets_of (cards_of flat) }; devices = map device_name flat.devices }

-- the report of a run is that of its history
pub history_is : (stem : List ℕ) (flat : Flat) (library : libraries.Library) (lifted : Lifted) (r : IsRunOf flat library lifted) → shown_report (first_names stem flat) library lifted.rounds (left_of lifted.last_origins) ≡ history_report stem flat library r.shown.history
history_is stem flat library lifted r =
    let run : Run = run_of flat library r.keep in
    let names = first_names stem flat in
    report_is run r.cells lifted names (left_of lifted.last_origins) r.are_cells r.shown ∙ ap (rounds_report names.run names.devices library r.shown.history.rounds) (left_is run r.cells lifted r.shown)

-- a fault that is passed on tells of the report of the history
pub history_told : {V : Type 0} (r : Result V WriteFault) (f : WriteFault) (stem : List ℕ) (flat : Flat) (library : libraries.Library) (lifted : Lifted) → IsErrAnd r (λ e. e ≡ f) → Tells f (shown_report (first_names stem flat) library lifted.rounds (left_of lifted.last_origins)) → IfErr r (λ e. (is : IsRunOf flat library lifted) → Tells e (history_report stem flat library is.shown.history))
history_told (Ok v) f stem flat library lifted e h = tt
history_told (Err g) f stem flat library lifted e h = λ is. subst (λ (x : WriteFault). Tells x (history_report stem flat library is.shown.history)) (sym e) (subst (Tells f) (history_is stem flat library lifted is) h)
