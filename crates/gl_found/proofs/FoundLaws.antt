-- The composites of a history are the chosen instances of the rounds that show it.
use Rattle.std.proofs.Common.{◌≡◌, ◌==◌, ◌+◌, ◌<◌, ℕ, zero, suc, List, [], ◌∷◌, ◌++◌, length, map, filter, eqb, Bool, true, false, Option, Some, None, refl, sym, ap, ◌∙◌, subst, arith, append_assoc}
use Rattle.std.specs.Prelude.{All, filter_map, flat_map, zip}
use Rattle.std.specs.List.{AllZip, enumerate_from, range_with_len}
use Rattle.std.proofs.lemmas.List.{length-map, map-append, append-nil}
use Rattle.std.proofs.lemmas.List.Elements.{All-nil, All-cons, All-append}
use Rattle.gl_text.specs.Decks.{Sub}
use Rattle.gl_match.specs.declared.role.Pick.{Pick}
use Rattle.gl_match.specs.declared.role.Pick.TheVariants.{Taken, Over}
use Rattle.gl_match.specs.Graph.{Circuit}
use Rattle.gl_match.specs.Cells.{Cell}
use Rattle.gl_match.specs.Listing.{Instance}
use Rattle.gl_base.specs.Libraries as libraries
use Rattle.gl_base.specs.Libraries.{greatest}
use Rattle.gl_base.specs.Rounds.{IsRound, searched}
use Rattle.gl_lists.proofs.Cons.{head_is, tail_is}
use Rattle.gl_lifting.specs.Runs.{Run, searched_at}
use Rattle.gl_lifting.specs.Replacement.{Slot, Origin, composite_of}
use Rattle.gl_lifting.specs.Histories as histories
use Rattle.gl_lifting.specs.Histories.{Stage, Follow, circuit_at, first_stage, composites_of, levels_of, stage_behind, chosen_of, chosen_in}
use Rattle.gl_lifting.specs.SearchedCells.{AreCells, cell_in}
use Rattle.gl_history.specs.Plain.{RoundCell, Round, Lifted}
use Rattle.gl_history.specs.Searching.{number_at, numbers_at, rounds_of}
use Rattle.gl_history.specs.Shown.{Shows, IsLifted}
use Rattle.gl_found.specs.Founds.{Found, found_at, found_of, found_in, all_found, sub_at, composite_by}

-- those of a level that are searched
abbrev searched_of : ℕ → List (Sub × libraries.Cell) → List Sub
searched_of level zs = searched (filter (λ c. c.1.level == level) zs)

-- a cell has a number among all
abbrev IsNumberOf : List Sub → Sub → ℕ → Type 0
IsNumberOf all s n = (n < length all) × (sub_at all n ≡ s)

-- ---- what items show, and levels

-- related to what items show is related to the items
zip_shown : {X Y Z : Type 0} (R : X → Y → Type 0) (view : Z → Y) (xs : List X) (zs : List Z) → AllZip R xs (map view zs) → AllZip (λ x z. R x (view z)) xs zs
zip_shown R view [] [] h = tt
zip_shown R view [] (z ∷ zs) h = absurd h
zip_shown R view (x ∷ xs) [] h = absurd h
zip_shown R view (x ∷ xs) (z ∷ zs) h = (h.0, zip_shown R view xs zs h.1)

levels_same : (run : Run) (subs : List Sub) (cells : List libraries.Cell) → length cells ≡ length subs → map (λ (c : Cell). c.level) (map (cell_in run) (zip subs cells)) ≡ map (λ (c : libraries.Cell). c.level) cells
levels_same run [] [] e = refl
levels_same run [] (c ∷ cells) e = absurd (omega (arith, e))
levels_same run (s ∷ subs) [] e = absurd (omega (arith, e))
levels_same run (s ∷ subs) (c ∷ cells) e = ap (λ ls. c.level ∷ ls) (levels_same run subs cells (omega (arith, e)))

-- there are as many rounds as levels
rounds_are : (run : Run) (subs : List Sub) (cells : List libraries.Cell) → length cells ≡ length subs → rounds_of (map (cell_in run) (zip subs cells)) ≡ levels_of cells
rounds_are run [] [] e = refl
rounds_are run [] (c ∷ cells) e = absurd (omega (arith, e))
rounds_are run (s ∷ subs) [] e = absurd (omega (arith, e))
rounds_are run (s ∷ subs) (c ∷ cells) e = ap (λ ls. suc (greatest ls)) (levels_same run (s ∷ subs) (c ∷ cells) e)

-- ---- numbers

numbers_from : (run : Run) (level : ℕ) (all : List Sub) (k : ℕ) (zs : List (Sub × libraries.Cell)) → ((j : ℕ) → j < length zs → (k + j < length all) × (sub_at all (k + j) ≡ sub_at (map (λ z. z.0) zs) j))
    → AllZip (IsNumberOf all) (searched_of level zs) (filter_map (number_at level) (enumerate_from k (map (cell_in run) zs)))
numbers_from run level all k [] h = tt
numbers_from run level all k (z ∷ zs) h = by (eqb z.1.level level) z.1.skip refl refl first (numbers_from run level all (k + 1) zs later)
  where
    first : IsNumberOf all z.0 k
    first = let r = h 0 (omega arith) in let e : k ≡ k + 0 = omega arith in (omega (arith, r.0), ap (sub_at all) e ∙ r.1)

    later : (j : ℕ) → j < length zs → (k + 1 + j < length all) × (sub_at all (k + 1 + j) ≡ sub_at (map (λ z. z.0) zs) j)
    later j lt = let r = h (suc j) (omega (arith, lt)) in let e : k + 1 + j ≡ k + suc j = omega arith in (omega (arith, r.0), ap (sub_at all) e ∙ r.1)

    by : (b : Bool) (o : Option libraries.Skip) → eqb z.1.level level ≡ b → z.1.skip ≡ o → IsNumberOf all z.0 k
        → AllZip (IsNumberOf all) (searched_of level zs) (filter_map (number_at level) (enumerate_from (k + 1) (map (cell_in run) zs)))
        → AllZip (IsNumberOf all) (searched_of level (z ∷ zs)) (filter_map (number_at level) (enumerate_from k (map (cell_in run) (z ∷ zs))))
    by false o e f own rest = rw e rest
    by true None e f own rest = rw e (rw f (own, rest))
    by true (Some skip) e f own rest = rw e (rw f rest)

firsts : (subs : List Sub) (cells : List libraries.Cell) → length cells ≡ length subs → map (λ (z : Sub × libraries.Cell). z.0) (zip subs cells) ≡ subs
firsts [] [] e = refl
firsts [] (c ∷ cells) e = refl
firsts (s ∷ subs) [] e = absurd (omega (arith, e))
firsts (s ∷ subs) (c ∷ cells) e = ap (λ ss. s ∷ ss) (firsts subs cells (omega (arith, e)))

-- the numbers of a level lead to its searched cells
numbers_lead : (run : Run) (cells : List Cell) (level : ℕ) → AreCells run cells → AllZip (IsNumberOf run.library.deck.subs) (searched_at run level) (numbers_at level cells)
numbers_lead run cells level are =
    let subs = run.library.deck.subs in
    let zs = zip subs run.library.cells in
    let same : map (λ (z : Sub × libraries.Cell). z.0) zs ≡ subs = firsts subs run.library.cells are.as_many in
    let long : length zs ≡ length subs = sym (length-map zs (λ (z : Sub × libraries.Cell). z.0)) ∙ ap length same in
    subst (λ (cs : List Cell). AllZip (IsNumberOf subs) (searched_at run level) (numbers_at level cs)) (sym are.each)
    (numbers_from run level subs 0 zs (λ j lt. let e : 0 + j ≡ j = omega arith in (omega (arith, lt, long), ap (sub_at subs) e ∙ ap (λ ss. sub_at ss j) (sym same))))

-- ---- one round

module _ (run : Run) (c : Circuit) (slots : List Slot) where
  abbrev origins : List Origin
  origins = map (λ (s : Slot). s.origin) slots

  abbrev subs : List Sub
  subs = run.library.deck.subs

  -- of one cell
  cell_found : (cell : ℕ) (list : List Instance) (picks : List Pick) → map (composite_of c slots run) (filter_map (chosen_of (sub_at subs cell)) (zip list picks)) ≡ map (composite_by run) (filter_map (found_at c origins cell) (zip list picks))
  cell_found cell [] picks = refl
  cell_found cell (i ∷ list) [] = refl
  cell_found cell (i ∷ list) (Taken number ∷ picks) = ap (λ cs. composite_by run (record { number = number; cell = cell; circuit = c; origins = origins; instance = i }) ∷ cs) (cell_found cell list picks)
  cell_found cell (i ∷ list) (Over number ∷ picks) = cell_found cell list picks

  -- of all cells
  cells_found : (ss : List Sub) (found : List RoundCell) → AllZip (λ s (f : RoundCell). IsNumberOf subs s f.cell) ss found
      → map (composite_of c slots run) (flat_map chosen_in (zip ss (zip (map (λ (f : RoundCell). f.list) found) (map (λ (f : RoundCell). f.picks) found)))) ≡ map (composite_by run) (flat_map (found_of c origins) found)
  cells_found [] [] h = refl
  cells_found [] (f ∷ found) h = absurd h
  cells_found (s ∷ ss) [] h = absurd h
  cells_found (s ∷ ss) (f ∷ found) h =
      let rest = flat_map chosen_in (zip ss (zip (map (λ (x : RoundCell). x.list) found) (map (λ (x : RoundCell). x.picks) found))) in
      let own = chosen_in (s, (f.list, f.picks)) in
      let here : map (composite_of c slots run) own ≡ map (composite_by run) (found_of c origins f) =
      ap (λ (t : Sub). map (composite_of c slots run) (filter_map (chosen_of t) (zip f.list f.picks))) (sym h.0.1) ∙ cell_found f.cell f.list f.picks in
      map-append (composite_of c slots run) own rest
      ∙ ap (λ cs. cs ++ map (composite_of c slots run) rest) here
      ∙ ap (λ cs. map (composite_by run) (found_of c origins f) ++ cs) (cells_found ss found h.1)
      ∙ sym (map-append (composite_by run) (found_of c origins f) (flat_map (found_of c origins) found))

-- the composites of a round are what was found in it
round_found : (run : Run) (level : ℕ) (cells : List Cell) (told : histories.Round) (shown : Round) → AreCells run cells → Shows run told shown → map (λ (f : RoundCell). f.cell) shown.cells ≡ numbers_at level cells
    → composites_of run (searched_at run level) told ≡ map (composite_by run) (found_in shown)
round_found run level cells told shown are shows numbers =
    let ss = searched_at run level in
    let c = circuit_at run told.before in
    let slots = told.before.slots in
    let subs = run.library.deck.subs in
    let led : AllZip (IsNumberOf subs) ss (map (λ (f : RoundCell). f.cell) shown.cells) = subst (λ ns. AllZip (IsNumberOf subs) ss ns) (sym numbers) (numbers_lead run cells level are) in
    ap (λ lists. map (composite_of c slots run) (flat_map chosen_in (zip ss (zip lists told.picks)))) (sym shows.lists)
    ∙ ap (λ picks. map (composite_of c slots run) (flat_map chosen_in (zip ss (zip (map (λ (f : RoundCell). f.list) shown.cells) picks)))) (sym shows.picks)
    ∙ cells_found run c slots ss shown.cells (zip_shown (IsNumberOf subs) (λ (f : RoundCell). f.cell) ss shown.cells led)
    ∙ ap (λ (d : Circuit). map (composite_by run) (flat_map (found_of d (map (λ (s : Slot). s.origin) slots)) shown.cells)) (sym shows.circuit)
    ∙ ap (λ (os : List Origin). map (composite_by run) (flat_map (found_of shown.circuit os) shown.cells)) (sym shows.origins)

-- ---- all rounds

-- the numbers of each round's cells
abbrev numbers_in : List Round → List (List ℕ)
numbers_in rounds = map (λ (r : Round). map (λ (f : RoundCell). f.cell) r.cells) rounds

rounds_found : (run : Run) (cells : List Cell) → AreCells run cells → (level : ℕ) (stage : Stage) (rounds : List histories.Round) (last : Stage) (shown : List Round)
    → Follow IsRound run level stage rounds last → AllZip (Shows run) rounds shown → numbers_in shown ≡ map (λ l. numbers_at l cells) (range_with_len level (length rounds))
    → last.composites ≡ stage.composites ++ map (composite_by run) (all_found shown)
rounds_found run cells are level stage [] last [] follow shows numbers = ap (λ (s : Stage). s.composites) follow ∙ sym (append-nil stage.composites)
rounds_found run cells are level stage [] last (x ∷ shown) follow shows numbers = absurd shows
rounds_found run cells are level stage (r ∷ rounds) last [] follow shows numbers = absurd shows
rounds_found run cells are level stage (r ∷ rounds) last (x ∷ shown) follow shows numbers =
    let own = map (λ (f : RoundCell). f.cell) x.cells in
    let rest = map (λ l. numbers_at l cells) (range_with_len (level + 1) (length rounds)) in
    let here : own ≡ numbers_at level cells = head_is own (numbers_at level cells) (numbers_in shown) rest numbers in
    let up : level + 1 ≡ suc level = omega arith in
    let later : numbers_in shown ≡ map (λ l. numbers_at l cells) (range_with_len (suc level) (length rounds)) =
    tail_is own (numbers_at level cells) (numbers_in shown) rest numbers ∙ ap (λ n. map (λ l. numbers_at l cells) (range_with_len n (length rounds))) up in
    let new = composites_of run (searched_at run level) r in
    let found : new ≡ map (composite_by run) (found_in x) = round_found run level cells r x are shows.0 here in
    let begins : r.before.composites ≡ stage.composites = ap (λ (s : Stage). s.composites) follow.0.begins in
    rounds_found run cells are (suc level) (stage_behind run (searched_at run level) r) rounds last shown follow.1 shows.1 later
    ∙ ap (λ cs. (cs ++ new) ++ map (composite_by run) (all_found shown)) begins
    ∙ append_assoc stage.composites new (map (composite_by run) (all_found shown))
    ∙ ap (λ cs. stage.composites ++ (cs ++ map (composite_by run) (all_found shown))) found
    ∙ ap (λ cs. stage.composites ++ cs) (sym (map-append (composite_by run) (found_in x) (all_found shown)))

-- the numbers of all rounds
all_numbers : (run : Run) (cells : List Cell) (lifted : Lifted) → AreCells run cells → (shown : IsLifted run cells lifted) → numbers_in lifted.rounds ≡ map (λ l. numbers_at l cells) (range_with_len 0 (length shown.history.rounds))
all_numbers run cells lifted are shown =
    let many : rounds_of cells ≡ length shown.history.rounds = ap rounds_of are.each ∙ rounds_are run run.library.deck.subs run.library.cells are.as_many ∙ sym shown.is_history.levels in
    shown.numbers ∙ ap (λ n. map (λ l. numbers_at l cells) (range_with_len 0 n)) many

-- the composites of the history are what was found
pub composites_found : (run : Run) (cells : List Cell) (lifted : Lifted) → AreCells run cells → (shown : IsLifted run cells lifted) → shown.history.last.composites ≡ map (composite_by run) (all_found lifted.rounds)
composites_found run cells lifted are shown = rounds_found run cells are 0 (first_stage run) shown.history.rounds shown.history.last lifted.rounds shown.is_history.follow shown.rounds (all_numbers run cells lifted are shown)

-- ---- cells

cell_known : (n : ℕ) (c : Circuit) (os : List Origin) (cell : ℕ) (list : List Instance) (picks : List Pick) → cell < n → All (λ (f : Found). f.cell < n) (filter_map (found_at c os cell) (zip list picks))
cell_known n c os cell [] picks lt = All-nil (λ (f : Found). f.cell < n)
cell_known n c os cell (i ∷ list) [] lt = All-nil (λ (f : Found). f.cell < n)
cell_known n c os cell (i ∷ list) (Taken number ∷ picks) lt = All-cons (λ (f : Found). f.cell < n) (record { number = number; cell = cell; circuit = c; origins = os; instance = i }) (filter_map (found_at c os cell) (zip list picks)) lt (cell_known n c os cell list picks lt)
cell_known n c os cell (i ∷ list) (Over number ∷ picks) lt = cell_known n c os cell list picks lt

cells_known : (all : List Sub) (c : Circuit) (os : List Origin) (ss : List Sub) (found : List RoundCell) → AllZip (λ s (f : RoundCell). IsNumberOf all s f.cell) ss found → All (λ (f : Found). f.cell < length all) (flat_map (found_of c os) found)
cells_known all c os [] [] h = All-nil (λ (f : Found). f.cell < length all)
cells_known all c os [] (f ∷ found) h = absurd h
cells_known all c os (s ∷ ss) [] h = absurd h
cells_known all c os (s ∷ ss) (f ∷ found) h = All-append (λ (g : Found). g.cell < length all) (found_of c os f) (flat_map (found_of c os) found) (cell_known (length all) c os f.cell f.list f.picks h.0.0) (cells_known all c os ss found h.1)

rounds_known : (run : Run) (cells : List Cell) → AreCells run cells → (level : ℕ) (n : ℕ) (shown : List Round) → numbers_in shown ≡ map (λ l. numbers_at l cells) (range_with_len level n) → All (λ (f : Found). f.cell < length run.library.deck.subs) (all_found shown)
rounds_known run cells are level n [] numbers = All-nil (λ (f : Found). f.cell < length run.library.deck.subs)
rounds_known run cells are level zero (x ∷ shown) numbers = absurd cc
rounds_known run cells are level (suc n) (x ∷ shown) numbers =
    let all = run.library.deck.subs in
    let own = map (λ (f : RoundCell). f.cell) x.cells in
    let rest = map (λ l. numbers_at l cells) (range_with_len (level + 1) n) in
    let here : own ≡ numbers_at level cells = head_is own (numbers_at level cells) (numbers_in shown) rest numbers in
    let led : AllZip (IsNumberOf all) (searched_at run level) own = subst (λ ns. AllZip (IsNumberOf all) (searched_at run level) ns) (sym here) (numbers_lead run cells level are) in
    All-append (λ (g : Found). g.cell < length all) (found_in x) (all_found shown)
    (cells_known all x.circuit x.origins (searched_at run level) x.cells (zip_shown (IsNumberOf all) (λ (f : RoundCell). f.cell) (searched_at run level) x.cells led))
    (rounds_known run cells are (level + 1) n shown (tail_is own (numbers_at level cells) (numbers_in shown) rest numbers))

-- each chosen instance is of a cell of the library
pub cells_are_known : (run : Run) (cells : List Cell) (lifted : Lifted) → AreCells run cells → IsLifted run cells lifted → All (λ (f : Found). f.cell < length run.library.deck.subs) (all_found lifted.rounds)
cells_are_known run cells lifted are shown = rounds_known run cells are 0 (rounds_of cells) lifted.rounds shown.numbers
