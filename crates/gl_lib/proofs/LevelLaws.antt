-- The cells of a library one by one, and that each can be searched in the first circuit.
use Rattle.std.proofs.Common.{◌≡◌, ◌+◌, ◌<◌, ℕ, List, [], ◌∷◌, ◌++◌, length, get_or, map, take, Option, None, Some, true, refl, sym, ap, ◌∙◌, subst, arith}
use Rattle.std.specs.Prelude.{Contains, All, filter, zip, min, position}
use Rattle.std.proofs.lemmas.List.{length-map, map-append, take_more, take_all}
use Rattle.std.proofs.lemmas.List.FromFn.{length-range_with_len}
use Rattle.std.proofs.lemmas.List.Elements.{All-map, Contains-get_or, Contains-append_right}
use Rattle.std.proofs.lemmas.Slice.Zip.{length-zip, get_or-zip}
use Rattle.gl_lists.proofs.Membership.{in_map, in_filter}
use Rattle.gl_lists.proofs.Zips.{left_in}
use Rattle.gl_lists.proofs.EachOnce.{place_within, found}
use Rattle.gl_text.specs.LogicalLines.{same_text}
use Rattle.gl_text.specs.Decks.{Sub, find_sub}
use Rattle.gl_text.specs.Flattening.{Flat}
use Rattle.gl_text.proofs.Names.{once_from}
use Rattle.gl_graph.specs.FitCells.{HasPorts, FitsIfAny, IsForCircuit}
use Rattle.gl_graph.proofs.PatternLaws as built
use Rattle.gl_base.specs.Rails.{all_rails}
use Rattle.gl_base.specs.TypeNames.{same_type, classes_of}
use Rattle.gl_base.specs.BaseCircuit.{nets_of, net_number, types_of, type_number}
use Rattle.gl_base.specs.Libraries.{Skip, Cell, Library}
use Rattle.gl_base.specs.Rounds.{cards_of, is_searched}
use Rattle.gl_base.proofs.TypeLaws as types_are
use Rattle.gl_lifting.specs.Runs.{Run, run_types, cell_type, cell_nets, pattern_in, first_circuit}
use Rattle.gl_lifting.specs.SearchedCells.{cell_in, pattern_unless}
use Rattle.gl_lib.specs.Sources.{IsWhole, AreSound, HasWholeCells, all_searched}
use Rattle.gl_lib.proofs.CardLaws.{shape_of_number}
use Rattle.gl_lib.proofs.RunTypes.{find_own}
use Rattle.gl_lib.proofs.SoundLaws.{pinning, pattern_sound, pattern_few}

-- ---- one cell

-- a cell that is not skipped is whole
pub whole_unless : (library : Library) → HasWholeCells library → (cell : Sub) (told : Cell) → Contains (zip library.deck.subs library.cells) (cell, told) → told.skip ≡ None → IsWhole library.deck.subs cell
whole_unless library has cell told at none =
    let pairs = zip library.deck.subs library.cells in
    let passes : is_searched told.skip ≡ true = ap is_searched none in
    let kept = in_filter (λ (c : Sub × Cell). is_searched c.1.skip) pairs (cell, told) at passes in
    let stands : Contains (all_searched library) cell = in_map (λ (c : Sub × Cell). c.0) (filter (λ (c : Sub × Cell). is_searched c.1.skip) pairs) (cell, told) kept in
    subst (IsWhole library.deck.subs) stands.2 (has.whole stands.0 cell stands.1)

-- it is found by its name
pub own_found : (library : Library) → HasWholeCells library → (cell : Sub) → Contains library.deck.subs cell → find_sub library.deck.subs cell.head.name ≡ Some cell
own_found library has cell at = find_own library.deck.subs cell (once_from (map (λ (s : Sub). s.head.name) library.deck.subs) has.names_differ) at

-- the cell that a turn of a loop is at
pub pair_there : (subs : List Sub) (cells : List Cell) (k : ℕ) (sub : Sub) (cell : Cell) → k < length subs → k < length cells → sub ≡ get_or subs k sub → cell ≡ get_or cells k cell → Contains (zip subs cells) (sub, cell)
pair_there subs cells k sub cell in_subs in_cells sub_is cell_is =
    (k, omega (arith, length-zip subs cells, in_subs, in_cells), get_or-zip subs cells k (sub, cell) in_subs in_cells ∙ (λ i. (sym sub_is i, sym cell_is i)))

-- ---- all cells

-- one step of the loop
pub cells_step : {Y : Type 0} (f : Sub × Cell → Y) (subs : List Sub) (cells : List Cell) (k n : ℕ) (before after : List Y) (sub : Sub) (cell : Cell) (made : Y) → k < length subs → k < length cells → n ≡ k + 1 → sub ≡ get_or subs k sub → cell ≡ get_or cells k cell
    → before ≡ map f (take k (zip subs cells)) → made ≡ f (sub, cell) → after ≡ before ++ made ∷ [] → after ≡ map f (take n (zip subs cells))
cells_step f subs cells k n before after sub cell made in_subs in_cells next sub_is cell_is was made_is now =
    let pairs = zip subs cells in
    let within : k < length pairs = omega (arith, length-zip subs cells, in_subs, in_cells) in
    let read : get_or pairs k (sub, cell) ≡ (sub, cell) = get_or-zip subs cells k (sub, cell) in_subs in_cells ∙ (λ i. (sym sub_is i, sym cell_is i)) in
    let front : take n pairs ≡ take k pairs ++ (sub, cell) ∷ [] = ap (λ m. take m pairs) next ∙ take_more pairs k (sub, cell) within ∙ ap (λ p. take k pairs ++ p ∷ []) read in
    now ∙ (λ i. was i ++ made_is i ∷ []) ∙ sym (map-append f (take k pairs) ((sub, cell) ∷ [])) ∙ ap (map f) (sym front)

-- at its end
pub cells_done : {Y : Type 0} (f : Sub × Cell → Y) (subs : List Sub) (cells : List Cell) (k : ℕ) (made : List Y) → k ≡ min (length subs) (length cells) → made ≡ map f (take k (zip subs cells)) → made ≡ map f (zip subs cells)
cells_done f subs cells k made all so_far = so_far ∙ ap (map f) (take_all k (zip subs cells) (omega (arith, length-zip subs cells, all)))

-- ---- what fits

module _ (f : Flat) (library : Library) (is : AreSound f library) (pins : List (List ℕ)) where
  abbrev run : Run
  run = pinning f library pins

  -- a cell's type is one of the run's
  type_inside : (cell : Sub) → Contains library.deck.subs cell → Contains (run_types run) (cell_type cell)
  type_inside cell inside = Contains-append_right (types_of run.source) (map cell_type library.deck.subs) (cell_type cell) (in_map cell_type library.deck.subs cell inside)

  -- the pattern of a whole cell has ports for the cell's type
  has_ports : (cell : Sub) → Contains library.deck.subs cell → IsWhole library.deck.subs cell → HasPorts (first_circuit run) (type_number (run_types run) (cell_type cell)) (pattern_in run cell)
  has_ports cell inside whole =
      let p = pattern_in run cell in
      let shapes = map classes_of (run_types run) in
      let rails = length (all_rails run.source.rails) in
      let sound = pattern_sound f library is pins cell inside whole in
      record {
        built = built.pattern_sound shapes rails p sound (omega (arith, pattern_few f library is pins cell inside whole));
        fits = built.pattern_fits shapes rails p sound (first_circuit run) refl (length-map (all_rails run.source.rails) (λ rail. position (same_text rail) (nets_of (cards_of f))));
        ports = length-map cell.head.ports (net_number (cell_nets cell)) ∙ sym (ap length (shape_of_number (run_types run) (cell_type cell) (found same_type types_are.exact types_are.itself (run_types run) (cell_type cell) (type_inside cell inside))) ∙ length-range_with_len 0 (length cell.head.ports));
      }

  fits_if : (cell : Sub) (skip : Option Skip) → Contains library.deck.subs cell → (skip ≡ None → IsWhole library.deck.subs cell) → FitsIfAny (first_circuit run) (type_number (run_types run) (cell_type cell)) (pattern_unless run cell skip)
  fits_if cell None inside whole = has_ports cell inside (whole refl)
  fits_if cell (Some skip) inside whole = tt

  -- each cell can be searched in the circuit
  cell_fits : (cell : Sub) (told : Cell) → Contains (zip library.deck.subs library.cells) (cell, told) → IsForCircuit (first_circuit run) (cell_in run (cell, told))
  cell_fits cell told at =
      let inside = left_in library.deck.subs library.cells (cell, told) at in
      record {
        kind = omega (arith, length-map (run_types run) classes_of, place_within same_type types_are.exact types_are.itself (run_types run) (cell_type cell) (type_inside cell inside));
        pattern = fits_if cell told.skip inside (whole_unless library is.cells cell told at);
      }

  pub all_fit : All (IsForCircuit (first_circuit run)) (map (cell_in run) (zip library.deck.subs library.cells))
  all_fit =
      let pairs = zip library.deck.subs library.cells in
      All-map (IsForCircuit (first_circuit run)) (cell_in run) pairs (λ k d lt. cell_fits (get_or pairs k d).0 (get_or pairs k d).1 (Contains-get_or pairs k d lt))
