-- What stays from round to round.
use Rattle.std.proofs.Common.{◌≡◌, ◌+◌, ℕ, suc, List, [], ◌∷◌, length, map, Option, Some, None, refl, sym, ap, ◌∙◌, subst}
use Rattle.std.specs.Prelude.{All}
use Rattle.std.specs.List.{enumerate_from, range_with_len}
use Rattle.std.proofs.lemmas.List.{length-map}
use Rattle.std.proofs.lemmas.List.Elements.{All-weaker}
use Rattle.gl_match.specs.declared.role.Role.{Role}
use Rattle.gl_match.specs.declared.role.Role.TheVariants.{Port, Rail, Inner}
use Rattle.gl_match.specs.Graph.{Device, Circuit, Pattern, HasShape, IsKnownRail, FitsInto}
use Rattle.gl_lifting.specs.Replacement.{Slot, base}
use Rattle.gl_match.specs.Cells.{Cell}
use Rattle.gl_history.specs.Plain.{Lifted}
use Rattle.gl_graph.specs.FitCells.{FitsIfAny, IsForCircuit}
use Rattle.gl_history.specs.Reached.{start_of, slots_behind, IsStep}
use Rattle.gl_history.proofs.HistoryLaws.{with_devices}

rail_kept : (c : Circuit) (ds : List Device) (role : Role) → IsKnownRail c role → IsKnownRail (with_devices c ds) role
rail_kept c ds (Port i) h = h
rail_kept c ds (Rail r) h = h
rail_kept c ds Inner h = h

fits_kept : (c : Circuit) (ds : List Device) (p : Pattern) → FitsInto c p → FitsInto (with_devices c ds) p
fits_kept c ds p h = record {
  devices = All-weaker (HasShape c) (HasShape (with_devices c ds)) (λ d s. record { kind = s.kind; places = s.places }) p.devices h.devices;
  rails = All-weaker (IsKnownRail c) (IsKnownRail (with_devices c ds)) (rail_kept c ds) p.roles h.rails;
}

any_kept : (c : Circuit) (ds : List Device) (kind : ℕ) (o : Option Pattern) → FitsIfAny c kind o → FitsIfAny (with_devices c ds) kind o
any_kept c ds kind None h = tt
any_kept c ds kind (Some p) h = record { built = h.built; fits = fits_kept c ds p h.fits; ports = h.ports }

cell_kept : (c : Circuit) (ds : List Device) (cell : Cell) → IsForCircuit c cell → IsForCircuit (with_devices c ds) cell
cell_kept c ds cell h = record { kind = h.kind; pattern = any_kept c ds cell.kind cell.pattern h.pattern }

module _ (cells : List Cell) (level : ℕ) (before after : Lifted) (step : IsStep cells level before after) where
  -- pinned nets stay
  pub pinned_kept : after.last.pinned ≡ before.last.pinned
  pinned_kept = ap (λ (l : Lifted). l.last.pinned) step.after_is

  -- cells can be searched behind the round too
  pub cells_kept : All (IsForCircuit before.last) cells → All (IsForCircuit after.last) cells
  cells_kept h =
      let ds = map (λ (s : Slot). s.device) (slots_behind cells before step.found) in
      subst (λ (l : Lifted). All (IsForCircuit l.last) cells) (sym step.after_is) (All-weaker (IsForCircuit before.last) (IsForCircuit (with_devices before.last ds)) (cell_kept before.last ds) cells h)

  -- there is an origin for each device
  pub origins_kept : length after.last_origins ≡ length after.last.devices
  origins_kept =
      let slots = slots_behind cells before step.found in
      subst (λ (l : Lifted). length l.last_origins ≡ length l.last.devices) (sym step.after_is) (length-map slots (λ (s : Slot). s.origin) ∙ sym (length-map slots (λ (s : Slot). s.device)))

-- ---- the start

originals_from : (k : ℕ) (ds : List Device) → map (λ m. base m) (range_with_len k (length ds)) ≡ map (λ (n : ℕ × Device). base n.0) (enumerate_from k ds)
originals_from k [] = refl
originals_from k (d ∷ ds) = ap (λ xs. base k ∷ xs) (originals_from (k + 1) ds)

pub originals_are : (count : ℕ) (ds : List Device) → count ≡ length ds → map (λ m. base m) (range_with_len 0 count) ≡ map (λ (n : ℕ × Device). base n.0) (enumerate_from 0 ds)
originals_are count ds e = ap (λ n. map (λ m. base m) (range_with_len 0 n)) e ∙ originals_from 0 ds

numbered_long : (k : ℕ) (ds : List Device) → length (map (λ (n : ℕ × Device). base n.0) (enumerate_from k ds)) ≡ length ds
numbered_long k [] = refl
numbered_long k (d ∷ ds) = ap suc (numbered_long (k + 1) ds)

pub start_long : (c : Circuit) (lifted : Lifted) → lifted ≡ start_of c → length lifted.last_origins ≡ length lifted.last.devices
start_long c lifted e = subst (λ (l : Lifted). length l.last_origins ≡ length l.last.devices) (sym e) (numbered_long 0 c.devices)
