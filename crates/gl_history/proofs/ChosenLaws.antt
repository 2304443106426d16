-- The chosen instances of a round, as the definitions of histories tell them.
use Rattle.std.proofs.Common.{◌≡◌, ℕ, suc, List, [], ◌∷◌, ◌++◌, length, map, cond, Bool, Option, Some, None, refl, sym, ap, subst, inl, inr}
use Rattle.std.specs.Prelude.{◌||◌, flat_map, find, filter_map, zip}
use Rattle.std.specs.List.{AllZip, list_any, enumerate_from}
use Rattle.std.proofs.lemmas.Bool.{cases_Bool}
use Rattle.std.proofs.lemmas.List.{map-append}
use Rattle.gl_text.specs.Decks.{Sub}
use Rattle.gl_match.specs.declared.role.Pick.{Pick}
use Rattle.gl_match.specs.declared.role.Pick.TheVariants.{Taken, Over}
use Rattle.gl_match.specs.Graph.{Circuit, is_in}
use Rattle.gl_match.specs.Listing.{Instance}
use Rattle.gl_base.specs.BaseCircuit.{type_number}
use Rattle.gl_lifting.specs.Runs.{Run, run_types, cell_type}
use Rattle.gl_lifting.specs.Replacement.{Slot, Composite, composite_of, composite_slot, is_lowest, after_at, replaced}
use Rattle.gl_lifting.specs.Replacement as replacement
use Rattle.gl_lifting.specs.Histories.{chosen_of, chosen_in}
use Rattle.gl_match.specs.Cells.{Cell}
use Rattle.gl_history.specs.Plain.{RoundCell}
use Rattle.gl_history.specs.Replacing as numbered

-- a chosen instance has the devices of a composite, and stands for it as its device does
pub record IsSame (run : Run) (c : numbered.Chosen) (told : Composite) : Type 0 where
  pub set : c.set ≡ told.key.set
  pub slot : c.slot ≡ composite_slot run told

-- ---- the same at each place

-- what is found first in two such lists is the same
abbrev pub SameFirst : Run → Option numbered.Chosen → Option Composite → Type 0
SameFirst run None None = Unit {0}
SameFirst run None (Some told) = ⊥
SameFirst run (Some c) None = ⊥
SameFirst run (Some c) (Some told) = c.slot ≡ composite_slot run told

first_same : (run : Run) (dev : ℕ) (cs : List numbered.Chosen) (ds : List Composite) → AllZip (IsSame run) cs ds → SameFirst run (find (λ (c : numbered.Chosen). is_lowest dev c.set) cs) (find (λ (c : Composite). is_lowest dev c.key.set) ds)
first_same run dev [] [] h = tt
first_same run dev [] (d ∷ ds) h = absurd h
first_same run dev (c ∷ cs) [] h = absurd h
first_same run dev (c ∷ cs) (d ∷ ds) h =
    let same : is_lowest dev c.set ≡ is_lowest dev d.key.set = ap (is_lowest dev) h.0.set in
    let later = first_same run dev cs ds h.1 in
    let both : Bool → Type 0 = λ b. SameFirst run (cond b (Some c) (find (λ (x : numbered.Chosen). is_lowest dev x.set) cs)) (cond b (Some d) (find (λ (x : Composite). is_lowest dev x.key.set) ds)) in
    let done : both (is_lowest dev d.key.set) = elim (cases_Bool (is_lowest dev d.key.set)) [ inl on ↦ subst both (sym on) h.0.slot | inr off ↦ subst both (sym off) later ] in
    subst (λ b. SameFirst run (cond b (Some c) (find (λ (x : numbered.Chosen). is_lowest dev x.set) cs)) (cond (is_lowest dev d.key.set) (Some d) (find (λ (x : Composite). is_lowest dev x.key.set) ds))) (sym same) done

any_same : (run : Run) (dev : ℕ) (cs : List numbered.Chosen) (ds : List Composite) → AllZip (IsSame run) cs ds → list_any (λ (c : numbered.Chosen). is_in c.set dev) cs ≡ list_any (λ (c : Composite). is_in c.key.set dev) ds
any_same run dev [] [] h = refl
any_same run dev [] (d ∷ ds) h = absurd h
any_same run dev (c ∷ cs) [] h = absurd h
any_same run dev (c ∷ cs) (d ∷ ds) h = let same = ap (λ set. is_in set dev) h.0.set in let later = any_same run dev cs ds h.1 in (λ i. same i || later i)

-- what stands at a place is the same
place_same : (run : Run) (cs : List numbered.Chosen) (ds : List Composite) (place : ℕ × Slot) → AllZip (IsSame run) cs ds → numbered.slots_at cs place ≡ after_at run ds place
place_same run cs ds place h = by (find (λ (c : numbered.Chosen). is_lowest place.0 c.set) cs) (find (λ (c : Composite). is_lowest place.0 c.key.set) ds) refl refl (first_same run place.0 cs ds h)
  where
    any : list_any (λ (c : numbered.Chosen). is_in c.set place.0) cs ≡ list_any (λ (c : Composite). is_in c.key.set place.0) ds
    any = any_same run place.0 cs ds h

    by : (o : Option numbered.Chosen) (p : Option Composite) → find (λ (c : numbered.Chosen). is_lowest place.0 c.set) cs ≡ o → find (λ (c : Composite). is_lowest place.0 c.key.set) ds ≡ p → SameFirst run o p → numbered.slots_at cs place ≡ after_at run ds place
    by None None e f same = rw e (rw f (ap (λ b. cond b [] (place.1 ∷ [])) any))
    by None (Some d) e f same = absurd same
    by (Some c) None e f same = absurd same
    by (Some c) (Some d) e f same = rw e (rw f (ap (λ s. s ∷ []) same))

places_same : (run : Run) (cs : List numbered.Chosen) (ds : List Composite) (places : List (ℕ × Slot)) → AllZip (IsSame run) cs ds → flat_map (numbered.slots_at cs) places ≡ flat_map (after_at run ds) places
places_same run cs ds [] h = refl
places_same run cs ds (place ∷ places) h = let here = place_same run cs ds place h in let later = places_same run cs ds places h in (λ i. here i ++ later i)

-- the slots behind are the same
pub slots_same : (run : Run) (cs : List numbered.Chosen) (ds : List Composite) (slots : List Slot) → AllZip (IsSame run) cs ds → numbered.slots_after cs slots ≡ replaced run ds slots
slots_same run cs ds slots h = places_same run cs ds (enumerate_from 0 slots) h

-- ---- the same chosen instances

zip_append : {X Y : Type 0} (R : X → Y → Type 0) (ws bs : List X) (xs ys : List Y) → AllZip R ws xs → AllZip R bs ys → AllZip R (ws ++ bs) (xs ++ ys)
zip_append R [] bs [] ys h k = k
zip_append R [] bs (x ∷ xs) ys h k = absurd h
zip_append R (w ∷ ws) bs [] ys h k = absurd h
zip_append R (w ∷ ws) bs (x ∷ xs) ys h k = (h.0, zip_append R ws bs xs ys h.1 k)

-- as many on both sides
pub zip_long : {X Y : Type 0} (R : X → Y → Type 0) (xs : List X) (ys : List Y) → AllZip R xs ys → length xs ≡ length ys
zip_long R [] [] h = refl
zip_long R [] (y ∷ ys) h = absurd h
zip_long R (x ∷ xs) [] h = absurd h
zip_long R (x ∷ xs) (y ∷ ys) h = ap suc (zip_long R xs ys h.1)

-- the type of a cell's composites has this number
abbrev pub HasKind : Run → Sub → ℕ → Type 0
HasKind run cell kind = kind ≡ type_number (run_types run) (cell_type cell)

module _ (run : Run) (c : Circuit) (slots : List Slot) where
  -- of one cell
  cell_same : (sub : Sub) (kind : ℕ) → HasKind run sub kind → (list : List Instance) (picks : List Pick) → AllZip (IsSame run) (filter_map (numbered.chosen_at kind) (zip list picks)) (map (composite_of c slots run) (filter_map (chosen_of sub) (zip list picks)))
  cell_same sub kind is [] picks = tt
  cell_same sub kind is (i ∷ list) [] = tt
  cell_same sub kind is (i ∷ list) (Taken number ∷ picks) =
      let slot_for : ℕ → Slot = λ (n : ℕ). record { device = record { kind = n; nets = i.key.binding }; origin = replacement.made number } in
      (record { set = refl; slot = ap slot_for is }, cell_same sub kind is list picks)
  cell_same sub kind is (i ∷ list) (Over number ∷ picks) = cell_same sub kind is list picks

  -- of all cells
  pub chosen_same : (cells : List Cell) (subs : List Sub) (found : List RoundCell) → AllZip (λ (s : Sub) (f : RoundCell). HasKind run s (numbered.kind_at cells f.cell)) subs found
      → AllZip (IsSame run) (numbered.chosen_of cells found) (map (composite_of c slots run) (flat_map chosen_in (zip subs (zip (map (λ (f : RoundCell). f.list) found) (map (λ (f : RoundCell). f.picks) found)))))
  chosen_same cells [] [] h = tt
  chosen_same cells [] (f ∷ found) h = absurd h
  chosen_same cells (s ∷ subs) [] h = absurd h
  chosen_same cells (s ∷ subs) (f ∷ found) h =
      let rest = flat_map chosen_in (zip subs (zip (map (λ (x : RoundCell). x.list) found) (map (λ (x : RoundCell). x.picks) found))) in
      let own = chosen_in (s, (f.list, f.picks)) in
      subst (λ ds. AllZip (IsSame run) (numbered.chosen_of cells (f ∷ found)) ds) (sym (map-append (composite_of c slots run) own rest))
      (zip_append (IsSame run) (numbered.chosen_of_cell cells f) (numbered.chosen_of cells found) (map (composite_of c slots run) own) (map (composite_of c slots run) rest)
      (cell_same s (numbered.kind_at cells f.cell) h.0 f.list f.picks) (chosen_same cells subs found h.1))
