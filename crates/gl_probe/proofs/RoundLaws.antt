-- The probe of rounds, by the cells as they are searched, is that of the history.
use Rattle.std.proofs.Common.{◌≡◌, ◌+◌, ◌<◌, ℕ, List, [], ◌∷◌, ◌++◌, length, map, filter, eqb, get_or, min, take, Bool, true, false, Option, None, Some, refl, sym, ap, ◌∙◌, subst, arith}
use Rattle.std.specs.Prelude.{◌==◌, flat_map, zip, All}
use Rattle.std.specs.List.{AllZip, enumerate_from}
use Rattle.std.proofs.lemmas.List.Elements.{All-weaker, All-nil, All-cons}
use Rattle.gl_text.specs.Decks.{Sub}
use Rattle.gl_match.specs.Cells.{Cell}
use Rattle.gl_match.specs.Graph.{Device, Circuit, Pattern, HasShape, IsKnownRail, FitsInto}
use Rattle.gl_match.specs.declared.role.Role.{Role}
use Rattle.gl_match.specs.declared.role.Role.TheVariants.{Port, Rail, Inner}
use Rattle.gl_graph.specs.FitCells.{FitsIfAny, IsForCircuit}
use Rattle.gl_base.specs.Libraries as libraries
use Rattle.gl_base.specs.Rounds.{searched}
use Rattle.gl_lifting.specs.Runs.{Run, pattern_in, first_circuit}
use Rattle.gl_lifting.specs.Replacement.{Slot}
use Rattle.gl_lifting.specs.Histories as histories
use Rattle.gl_lifting.specs.SearchedCells.{AreCells, cell_in}
use Rattle.gl_history.specs.Plain.{Round, Lifted}
use Rattle.gl_history.specs.Shown.{Shows, IsLifted}
use Rattle.gl_probe.specs.Keys.{key_in}
use Rattle.gl_probe.specs.Probes.{key_line, round_probe, history_probe}
use Rattle.gl_probe.specs.Shown.{shown_line, shown_round, shown_probe, AllFit}

-- ---- texts

-- the lines of a round's cells are those of its searched cells
lines_are : (run : Run) (level : ℕ) (c : Circuit) (subs : List Sub) (cells : List libraries.Cell) → flat_map (shown_line level c) (zip subs (map (cell_in run) (zip subs cells))) ≡ flat_map (λ (cell : Sub). key_line level cell (key_in c (pattern_in run cell))) (searched (filter (λ x. x.1.level == level) (zip subs cells)))
lines_are run level c [] cells = refl
lines_are run level c (s ∷ subs) [] = refl
lines_are run level c (s ∷ subs) (t ∷ cells) = by (eqb t.level level) t.skip refl refl (lines_are run level c subs cells)
  where
    by : (b : Bool) (o : Option libraries.Skip) → eqb t.level level ≡ b → t.skip ≡ o
        → flat_map (shown_line level c) (zip subs (map (cell_in run) (zip subs cells))) ≡ flat_map (λ (cell : Sub). key_line level cell (key_in c (pattern_in run cell))) (searched (filter (λ x. x.1.level == level) (zip subs cells)))
        → flat_map (shown_line level c) (zip (s ∷ subs) (map (cell_in run) (zip (s ∷ subs) (t ∷ cells)))) ≡ flat_map (λ (cell : Sub). key_line level cell (key_in c (pattern_in run cell))) (searched (filter (λ x. x.1.level == level) (zip (s ∷ subs) (t ∷ cells))))
    by false o e f later = rw e later
    by true None e f later = rw e (rw f (ap (λ text. key_line level s (key_in c (pattern_in run s)) ++ text) later))
    by true (Some skip) e f later = rw e (rw f later)

module _ (run : Run) (cells : List Cell) (are : AreCells run cells) where
  -- a round is told as that of the history
  round_is : (level : ℕ) (told : histories.Round) (shown : Round) → Shows run told shown → shown_round run.library.deck.subs cells (level, shown) ≡ round_probe run (level, told)
  round_is level told shown shows =
      let subs = run.library.deck.subs in
      ap (λ (cs : List Cell). flat_map (shown_line level shown.circuit) (zip subs cs)) are.each
      ∙ (ap (λ (c : Circuit). flat_map (shown_line level c) (zip subs (map (cell_in run) (zip subs run.library.cells)))) shows.circuit
      ∙ lines_are run level (histories.circuit_at run told.before) subs run.library.cells)

  rounds_are : (level : ℕ) (hs : List histories.Round) (ls : List Round) → AllZip (Shows run) hs ls → flat_map (shown_round run.library.deck.subs cells) (enumerate_from level ls) ≡ flat_map (round_probe run) (enumerate_from level hs)
  rounds_are level [] [] all = refl
  rounds_are level [] (l ∷ ls) all = absurd all
  rounds_are level (h ∷ hs) [] all = absurd all
  rounds_are level (h ∷ hs) (l ∷ ls) all =
      ap (λ (t : List ℕ). t ++ flat_map (shown_round run.library.deck.subs cells) (enumerate_from (level + 1) ls)) (round_is level h l all.0)
      ∙ ap (λ (t : List ℕ). round_probe run (level, h) ++ t) (rounds_are (level + 1) hs ls all.1)

-- the probe of the rounds is that of the history
pub probe_is : (run : Run) (cells : List Cell) (lifted : Lifted) → AreCells run cells → (is : IsLifted run cells lifted) → shown_probe run.library.deck.subs cells lifted.rounds ≡ history_probe run is.history
probe_is run cells lifted are is = rounds_are run cells are 0 is.history.rounds lifted.rounds is.rounds

-- ---- circuits

with_devices : Circuit → List Device → Circuit
with_devices c ds = record c { devices = ds }

rail_kept : (c : Circuit) (ds : List Device) (role : Role) → IsKnownRail c role → IsKnownRail (with_devices c ds) role
unfolding with_devices
rail_kept c ds (Port i) h = h
rail_kept c ds (Rail r) h = h
rail_kept c ds Inner h = h

fits_kept : (c : Circuit) (ds : List Device) (p : Pattern) → FitsInto c p → FitsInto (with_devices c ds) p
unfolding with_devices
fits_kept c ds p h = record {
  devices = All-weaker (HasShape c) (HasShape (with_devices c ds)) (λ d s. record { kind = s.kind; places = s.places }) p.devices h.devices;
  rails = All-weaker (IsKnownRail c) (IsKnownRail (with_devices c ds)) (rail_kept c ds) p.roles h.rails;
}

any_kept : (c : Circuit) (ds : List Device) (kind : ℕ) (o : Option Pattern) → FitsIfAny c kind o → FitsIfAny (with_devices c ds) kind o
unfolding with_devices
any_kept c ds kind None h = tt
any_kept c ds kind (Some p) h = record { built = h.built; fits = fits_kept c ds p h.fits; ports = h.ports }

cell_kept : (c : Circuit) (ds : List Device) (cell : Cell) → IsForCircuit c cell → IsForCircuit (with_devices c ds) cell
unfolding with_devices
cell_kept c ds cell h = record { kind = h.kind; pattern = any_kept c ds cell.kind cell.pattern h.pattern }

module _ (run : Run) (cells : List Cell) (fit : All (IsForCircuit (first_circuit run)) cells) where
  round_fits : (told : histories.Round) (shown : Round) → Shows run told shown → All (IsForCircuit shown.circuit) cells
  unfolding with_devices
  round_fits told shown shows =
      let ds = map (λ (s : Slot). s.device) told.before.slots in
      let kept : All (IsForCircuit (histories.circuit_at run told.before)) cells = All-weaker (IsForCircuit (first_circuit run)) (IsForCircuit (with_devices (first_circuit run) ds)) (cell_kept (first_circuit run) ds) cells fit in
      subst (λ (c : Circuit). All (IsForCircuit c) cells) (sym shows.circuit) kept

  rounds_fit : (hs : List histories.Round) (ls : List Round) → AllZip (Shows run) hs ls → AllFit cells ls
  rounds_fit [] [] all = All-nil (λ (r : Round). All (IsForCircuit r.circuit) cells)
  rounds_fit [] (l ∷ ls) all = absurd all
  rounds_fit (h ∷ hs) [] all = absurd all
  rounds_fit (h ∷ hs) (l ∷ ls) all = All-cons (λ (r : Round). All (IsForCircuit r.circuit) cells) l ls (round_fits h l all.0) (rounds_fit hs ls all.1)

-- each cell can be searched in the circuit of each round
pub all_fit : (run : Run) (cells : List Cell) (lifted : Lifted) → All (IsForCircuit (first_circuit run)) cells → IsLifted run cells lifted → AllFit cells lifted.rounds
all_fit run cells lifted fit is = rounds_fit run cells fit is.history.rounds lifted.rounds is.rounds
