-- What is reached round by round shows the history of a run.
use Rattle.std.proofs.Common.{◌≡◌, ◌+◌, ℕ, zero, suc, List, [], ◌∷◌, ◌++◌, length, map, refl, sym, ap, ◌∙◌, subst, arith}
use Rattle.std.specs.Prelude.{zip}
use Rattle.std.specs.List.{AllZip, enumerate_from, range_with_len}
use Rattle.std.proofs.lemmas.List.{map-append, length-append}
use Rattle.gl_text.specs.Decks.{Sub}
use Rattle.gl_match.specs.declared.role.Pick.{Pick}
use Rattle.gl_match.specs.Graph.{Device, Circuit, Pattern}
use Rattle.gl_match.specs.Listing.{Instance}
use Rattle.gl_base.specs.Rounds.{IsRound}
use Rattle.gl_lifting.specs.Runs.{Run, searched_at, first_circuit, pattern_in}
use Rattle.gl_lifting.specs.Replacement.{Slot, base, Composite, replaced}
use Rattle.gl_lifting.specs.Histories as histories
use Rattle.gl_lifting.specs.Histories.{Stage, Follow, IsRoundAt, circuit_at, first_stage, composites_of, stage_behind}
use Rattle.gl_history.specs.declared.origin.Origin as declared
use Rattle.gl_history.specs.declared.origin.Origin.TheVariants.{Base}
use Rattle.gl_match.specs.Cells.{Cell}
use Rattle.gl_history.specs.Plain.{RoundCell, Round, Lifted, origin_value}
use Rattle.gl_history.specs.Searching.{patterns_at, numbers_at, rounds_of}
use Rattle.gl_history.specs.Replacing.{chosen_of, slots_of, slots_after, kind_at}
use Rattle.gl_history.specs.Reached.{start_of, slots_behind, behind, AreFound, Reached}
use Rattle.gl_lifting.specs.SearchedCells.{AreCells}
use Rattle.gl_history.specs.Shown.{Shows, IsLifted}
use Rattle.gl_history.proofs.SlotLaws.{together}
use Rattle.gl_history.proofs.ChosenLaws.{IsSame, HasKind, slots_same, chosen_same, zip_long}
use Rattle.gl_history.proofs.CellLaws.{patterns_are, numbers_are, zip_shown, rounds_are}

-- so many rounds show the history of a run as far as it goes
pub record Told (run : Run) (cells : List Cell) (level : ℕ) (lifted : Lifted) : Type 0 where
  pub rounds : List histories.Round
  pub stage : Stage
  pub follow : Follow IsRound run 0 (first_stage run) rounds stage
  pub many : length rounds ≡ level
  pub shown : AllZip (Shows run) rounds lifted.rounds
  pub last : lifted.last ≡ circuit_at run stage
  pub origins : lifted.last_origins ≡ map (λ (s : Slot). s.origin) stage.slots
  pub chosen : lifted.chosen ≡ length stage.composites
  pub numbers : map (λ (r : Round). map (λ (f : RoundCell). f.cell) r.cells) lifted.rounds ≡ map (λ l. numbers_at l cells) (range_with_len 0 level)

-- ---- lists

-- one number more
range_more : (a n : ℕ) → range_with_len a (suc n) ≡ range_with_len a n ++ (a + n) ∷ []
range_more a zero = ap (λ x. x ∷ []) (omega arith)
range_more a (suc n) = ap (λ xs. a ∷ xs) (range_more (a + 1) n ∙ ap (λ x. range_with_len (a + 1) n ++ x ∷ []) (omega arith))

-- one original device more
pub originals_more : (n : ℕ) (os : List declared.Origin) → map origin_value os ≡ map (λ m. base m) (range_with_len 0 n) → map origin_value (os ++ Base n ∷ []) ≡ map (λ m. base m) (range_with_len 0 (n + 1))
originals_more n os e =
    let after : n + 1 ≡ suc n = omega arith in
    let same : 0 + n ≡ n = omega arith in
    let next : range_with_len 0 (n + 1) ≡ range_with_len 0 n ++ n ∷ [] = ap (range_with_len 0) after ∙ range_more 0 n ∙ ap (λ k. range_with_len 0 n ++ k ∷ []) same in
    map-append origin_value os (Base n ∷ []) ∙ ap (λ xs. xs ++ base n ∷ []) e ∙ sym (ap (map (λ m. base m)) next ∙ map-append (λ m. base m) (range_with_len 0 n) (n ∷ []))

-- one pair more
zip_more : {X Y : Type 0} (R : X → Y → Type 0) (xs : List X) (ys : List Y) (x : X) (y : Y) → AllZip R xs ys → R x y → AllZip R (xs ++ x ∷ []) (ys ++ y ∷ [])
zip_more R [] [] x y h r = (r, tt)
zip_more R [] (b ∷ ys) x y h r = absurd h
zip_more R (a ∷ xs) [] x y h r = absurd h
zip_more R (a ∷ xs) (b ∷ ys) x y h r = (h.0, zip_more R xs ys x y h.1 r)

-- ---- the start

-- the devices of the first stage are the circuit's
devices_stay : (k : ℕ) (ds : List Device) → map (λ (s : Slot). s.device) (map (λ (n : ℕ × Device). let s : Slot = record { device = n.1; origin = base n.0 } in s) (enumerate_from k ds)) ≡ ds
devices_stay k [] = refl
devices_stay k (d ∷ ds) = ap (λ xs. d ∷ xs) (devices_stay (k + 1) ds)

origins_stay : (k : ℕ) (ds : List Device) → map (λ (n : ℕ × Device). base n.0) (enumerate_from k ds) ≡ map (λ (s : Slot). s.origin) (map (λ (n : ℕ × Device). let s : Slot = record { device = n.1; origin = base n.0 } in s) (enumerate_from k ds))
origins_stay k [] = refl
origins_stay k (d ∷ ds) = ap (λ xs. base k ∷ xs) (origins_stay (k + 1) ds)

-- a circuit with other devices
abbrev pub with_devices : Circuit → List Device → Circuit
with_devices c ds = record c { devices = ds }

told_start : (run : Run) (cells : List Cell) (c : Circuit) → c ≡ first_circuit run → Told run cells 0 (start_of c)
told_start run cells c e = record {
  rounds = [];
  stage = first_stage run;
  follow = refl;
  many = refl;
  shown = tt;
  last = e ∙ sym (ap (with_devices (first_circuit run)) (devices_stay 0 (first_circuit run).devices));
  origins = ap (λ (x : Circuit). map (λ (n : ℕ × Device). base n.0) (enumerate_from 0 x.devices)) e ∙ origins_stay 0 (first_circuit run).devices;
  chosen = refl;
  numbers = refl;
}

-- ---- one round more

follow_more : (Said : Circuit → ℕ → List Pattern → List (List Instance) → List (List Pick) → Type 0) (run : Run) (level n : ℕ) (stage : Stage) (rounds : List histories.Round) (last : Stage) (r : histories.Round)
    → n ≡ level + length rounds → Follow Said run level stage rounds last → IsRoundAt Said run n last r → Follow Said run level stage (rounds ++ r ∷ []) (stage_behind run (searched_at run n) r)
follow_more Said run level n stage [] last r at f is =
    let same : n ≡ level = omega (arith, at) in
    (subst (λ s. IsRoundAt Said run level s r) f (subst (λ m. IsRoundAt Said run m last r) same is), ap (λ m. stage_behind run (searched_at run m) r) same)
follow_more Said run level n stage (x ∷ rounds) last r at f is = (f.0, follow_more Said run (suc level) n (stage_behind run (searched_at run level) x) rounds last r (omega (arith, at)) f.1 is)

module _ (run : Run) (cells : List Cell) (are : AreCells run cells) (level : ℕ) (before : Lifted) (found : List RoundCell) (told : Told run cells level before) (searched : AreFound before.last (suc before.chosen) cells level found) where
  -- the round of the history
  abbrev round : histories.Round
  round = record { before = told.stage; lists = map (λ (f : RoundCell). f.list) found; picks = map (λ (f : RoundCell). f.picks) found }

  -- its cells, and its composites
  abbrev subs : List Sub
  subs = searched_at run level

  abbrev new : List Composite
  new = composites_of run subs round

  -- the types of the cells that are found agree
  kinds : AllZip (λ (s : Sub) (f : RoundCell). HasKind run s (kind_at cells f.cell)) subs found
  kinds =
      let zs = zip run.library.deck.subs run.library.cells in
      let by_number : AllZip (λ (s : Sub) (n : ℕ). HasKind run s (kind_at cells n)) subs (numbers_at level cells) = subst (λ (cs : List Cell). AllZip (λ (s : Sub) (n : ℕ). HasKind run s (kind_at cs n)) subs (numbers_at level cs)) (sym are.each) (numbers_are run level zs) in
      zip_shown (λ (s : Sub) (n : ℕ). HasKind run s (kind_at cells n)) (λ (f : RoundCell). f.cell) subs found (subst (λ ns. AllZip (λ (s : Sub) (n : ℕ). HasKind run s (kind_at cells n)) subs ns) (sym searched.numbers) by_number)

  same : AllZip (IsSame run) (chosen_of cells found) new
  same = chosen_same run (circuit_at run told.stage) told.stage.slots cells subs found kinds

  -- the slots behind the round are those of the history
  slots_are : slots_behind cells before found ≡ replaced run new told.stage.slots
  slots_are =
      ap (λ (c : Circuit). slots_after (chosen_of cells found) (slots_of c.devices before.last_origins)) told.last
      ∙ ap (λ os. slots_after (chosen_of cells found) (slots_of (map (λ (s : Slot). s.device) told.stage.slots) os)) told.origins
      ∙ ap (slots_after (chosen_of cells found)) (together told.stage.slots)
      ∙ slots_same run (chosen_of cells found) new told.stage.slots same

  -- this is said of the round
  said : IsRound (circuit_at run told.stage) (suc (length told.stage.composites)) (map (pattern_in run) subs) round.lists round.picks
  said =
      let zs = zip run.library.deck.subs run.library.cells in
      let patterns : patterns_at level cells ≡ map (pattern_in run) subs = ap (patterns_at level) are.each ∙ patterns_are run level zs in
      subst (λ c. IsRound c (suc (length told.stage.composites)) (map (pattern_in run) subs) round.lists round.picks) told.last
      (subst (λ n. IsRound before.last (suc n) (map (pattern_in run) subs) round.lists round.picks) told.chosen
      (subst (λ ps. IsRound before.last (suc before.chosen) ps round.lists round.picks) patterns searched.round))

  told_next : Told run cells (suc level) (behind cells before found)
  told_next = record {
    rounds = told.rounds ++ round ∷ [];
    stage = stage_behind run subs round;
    follow = follow_more IsRound run 0 level (first_stage run) told.rounds told.stage round (omega (arith, told.many)) told.follow (record { begins = refl; said = said });
    many = omega (arith, told.many, length-append told.rounds (round ∷ []));
    shown = zip_more (Shows run) told.rounds before.rounds round (record { circuit = before.last; origins = before.last_origins; cells = found }) told.shown (record { circuit = told.last; origins = told.origins; lists = refl; picks = refl });
    last = (λ i. with_devices (told.last i) (map (λ (s : Slot). s.device) (slots_are i)));
    origins = ap (map (λ (s : Slot). s.origin)) slots_are;
    chosen = omega (arith, told.chosen, length-append told.stage.composites new, zip_long (IsSame run) (chosen_of cells found) new same);
    numbers = map-append (λ (r : Round). map (λ (f : RoundCell). f.cell) r.cells) before.rounds (record { circuit = before.last; origins = before.last_origins; cells = found } ∷ [])
        ∙ (λ i. told.numbers i ++ searched.numbers i ∷ [])
        ∙ sym (map-append (λ l. numbers_at l cells) (range_with_len 0 level) (level ∷ []))
        ∙ ap (map (λ l. numbers_at l cells)) (sym (range_more 0 level ∙ ap (λ n. range_with_len 0 level ++ n ∷ []) (omega arith)));
  }

-- ---- all rounds

told_all : (run : Run) (cells : List Cell) (c : Circuit) → c ≡ first_circuit run → AreCells run cells → (level : ℕ) (lifted : Lifted) → Reached c cells level lifted → Told run cells level lifted
told_all run cells c e are zero lifted h = subst (Told run cells 0) (sym h) (told_start run cells c e)
told_all run cells c e are (suc level) lifted h =
    let before = h.0 in
    let step = h.2 in
    subst (Told run cells (suc level)) (sym step.after_is) (told_next run cells are level before step.found (told_all run cells c e are level before h.1) step.searched)

-- what all rounds reach shows the history
pub history_shown : (run : Run) (cells : List Cell) (c : Circuit) (lifted : Lifted) → c ≡ first_circuit run → AreCells run cells → Reached c cells (rounds_of cells) lifted → IsLifted run cells lifted
history_shown run cells c lifted e are h =
    let told = told_all run cells c e are (rounds_of cells) lifted h in
    record {
      history = record { rounds = told.rounds; last = told.stage };
      is_history = record { levels = told.many ∙ ap rounds_of are.each ∙ rounds_are run run.library.deck.subs run.library.cells are.as_many; follow = told.follow };
      rounds = told.shown;
      last = told.last;
      last_origins = told.origins;
      chosen = told.chosen;
      numbers = told.numbers;
    }
