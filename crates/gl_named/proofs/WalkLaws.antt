-- The walk over what was found gives the map of the history.
use Rattle.std.proofs.Common.{◌≡◌, ◌+◌, ◌<◌, ℕ, zero, suc, List, [], ◌∷◌, ◌++◌, length, get_or, map, Option, refl, sym, ap, ◌∙◌, append_assoc}
use Rattle.std.specs.Prelude.{fold, filter_map, flat_map, reverse, slice_index_or, unwrap_or, zip}
use Rattle.std.proofs.lemmas.Option.{get_or_from_slice_get, slice_get-get_or}
use Rattle.std.proofs.lemmas.List.{append-nil, map-append, reverse-append}
use Rattle.gl_text.specs.Cards.{Device as Card}
use Rattle.gl_text.specs.Decks.{Sub}
use Rattle.gl_text.specs.Flattening.{Flat, FlatDevice, flat_card, device_name, path_text}
use Rattle.gl_base.specs.BaseCircuit.{nets_of}
use Rattle.gl_base.specs.Libraries.{Library}
use Rattle.gl_base.specs.Rounds.{cards_of}
use Rattle.gl_lifting.specs.Runs.{Run, run_of}
use Rattle.gl_lifting.specs.Replacement.{Composite}
use Rattle.gl_lifting.specs.NameMaps.{under, located, located_behind, ways_through, devices_renamed, nets_renamed, map_of}
use Rattle.gl_history.specs.Plain.{Lifted}
use Rattle.gl_found.specs.Founds.{Found, all_found, sub_at, composite_by, IsRunOf}
use Rattle.gl_named.specs.Walks.{Plan, Rows, way_text, way_row, device_row, net_row, cell_pairs, cards_from, plan_of, rows_behind, renamed_from, map_by}
use Rattle.gl_named.proofs.RowLaws.{texted, way_is, ways_are, devices_are, nets_are}

module _ (stem : List ℕ) (run : Run) where
  abbrev behind : Rows → Found → Rows
  behind = rows_behind stem run.source.rails run.library.deck.subs

  -- rows whose ways are told as texts
  abbrev rows_with : List (ℕ × List (List ℕ)) → List (ℕ × List ℕ) → List (ℕ × List ℕ) → Rows
  rows_with ways devices nets = record { ways = map texted ways; devices = devices; nets = nets }

  -- one chosen instance more
  one_behind : (ways : List (ℕ × List (List ℕ))) (devices nets : List (ℕ × List ℕ)) (f : Found) → let l = located stem ways (composite_by run f) in
      behind (rows_with ways devices nets) f ≡ rows_with (ways ++ ways_through l) (devices ++ devices_renamed l) (nets ++ nets_renamed run.source l)
  one_behind ways devices nets f =
      let l = located stem ways (composite_by run f) in
      let plan = plan_of run.source.rails (sub_at run.library.deck.subs f.cell) in
      let text = way_text stem (under (map texted ways) f.number) f.number in
      let text_is : text ≡ path_text l.way = way_is stem ways (composite_by run f) in
      let cards = cards_from f plan.cell.cards in
      let image = under (cell_pairs plan.nets f.circuit (zip plan.cell.cards f.instance.least)) in
      let a : map texted ways ++ filter_map (way_row text) cards ≡ map texted (ways ++ ways_through l) =
      ap (λ w. map texted ways ++ filter_map (way_row w) cards) text_is
      ∙ ap (λ rows. map texted ways ++ rows) (ways_are l.way f.origins plan.cell.cards f.instance.least)
      ∙ sym (map-append texted ways (ways_through l)) in
      let b : filter_map (device_row text) cards ≡ devices_renamed l =
      ap (λ w. filter_map (device_row w) cards) text_is ∙ devices_are l.way f.origins plan.cell.cards f.instance.least in
      let c : map (net_row text image) plan.inner ≡ nets_renamed run.source l =
      ap (λ w. map (net_row w image) plan.inner) text_is ∙ nets_are run f l.way in
      λ i. record { ways = a i; devices = devices ++ b i; nets = nets ++ c i }

  -- all of them
  all_behind : (fs : List Found) (ways : List (ℕ × List (List ℕ))) (devices nets : List (ℕ × List ℕ)) → let all = located_behind stem ways (map (composite_by run) fs) in
      let rows = fold behind (rows_with ways devices nets) fs in
      (rows.devices ≡ devices ++ flat_map devices_renamed all) × (rows.nets ≡ nets ++ flat_map (nets_renamed run.source) all)
  all_behind [] ways devices nets = (sym (append-nil devices), sym (append-nil nets))
  all_behind (f ∷ fs) ways devices nets =
      let l = located stem ways (composite_by run f) in
      let more = ways ++ ways_through l in
      let all = located_behind stem more (map (composite_by run) fs) in
      let one = ap (λ rows. fold behind rows fs) (one_behind ways devices nets f) in
      let rest = all_behind fs more (devices ++ devices_renamed l) (nets ++ nets_renamed run.source l) in (
        ap (λ (rows : Rows). rows.devices) one ∙ rest.0 ∙ append_assoc devices (devices_renamed l) (flat_map devices_renamed all),
        ap (λ (rows : Rows). rows.nets) one ∙ rest.1 ∙ append_assoc nets (nets_renamed run.source l) (flat_map (nets_renamed run.source) all),
      )

-- ---- names

pub renamed_same : (one two : ℕ → Option (List ℕ)) → ((n : ℕ) → one n ≡ two n) → (k : ℕ) (names : List (List ℕ)) → renamed_from one k names ≡ renamed_from two k names
renamed_same one two same k [] = refl
renamed_same one two same k (name ∷ names) =
    ap (λ o. (unwrap_or o name, name) ∷ renamed_from one (k + 1) names) (same k)
    ∙ ap (λ rest. (unwrap_or (two k) name, name) ∷ rest) (renamed_same one two same (k + 1) names)

pub names_are : (ds : List FlatDevice) → map (λ (c : Card). c.name) (map flat_card ds) ≡ map device_name ds
names_are [] = refl
names_are (d ∷ ds) = ap (λ names. device_name d ∷ names) (names_are ds)

map_reverse : {A B : Type 0} (f : A → B) (xs : List A) → map f (reverse xs) ≡ reverse (map f xs)
map_reverse f [] = refl
map_reverse f (x ∷ xs) =
    ap (map f) (reverse-append (x ∷ []) xs) ∙ map-append f (reverse xs) (x ∷ []) ∙ ap (λ ys. ys ++ f x ∷ []) (map_reverse f xs) ∙ sym (reverse-append (f x ∷ []) (map f xs))

-- the map of what was found is that of the history
pub walked_map : (stem : List ℕ) (flat : Flat) (library : Library) (lifted : Lifted) (r : IsRunOf flat library lifted)
    → r.shown.history.last.composites ≡ map (composite_by (run_of flat library r.keep)) (all_found lifted.rounds)
    → map_by stem flat.rails library.deck.subs (map device_name flat.devices) (nets_of (cards_of flat)) (all_found lifted.rounds)
    ≡ map_of stem flat (run_of flat library r.keep).source r.shown.history
walked_map stem flat library lifted r composites =
    let run = run_of flat library r.keep in
    let found = all_found lifted.rounds in
    let names = map (λ (c : Card). c.name) (cards_of flat) in
    let nets = nets_of (cards_of flat) in
    let all = located_behind stem [] (map (composite_by run) (reverse found)) in
    let walk = all_behind stem run (reverse found) [] [] [] in
    let last : map (composite_by run) (reverse found) ≡ reverse r.shown.history.last.composites = map_reverse (composite_by run) found ∙ ap reverse (sym composites) in
    let first : map_by stem flat.rails library.deck.subs (map device_name flat.devices) nets found
    ≡ record { devices = renamed_from (under (flat_map devices_renamed all)) 0 names; nets = renamed_from (under (flat_map (nets_renamed run.source) all)) 0 nets } =
    λ i. record { devices = renamed_from (under (walk.0 i)) 0 (sym (names_are flat.devices) i); nets = renamed_from (under (walk.1 i)) 0 nets } in
    first ∙ ap (λ (cs : List Composite). let told = located_behind stem [] cs in record { devices = renamed_from (under (flat_map devices_renamed told)) 0 names; nets = renamed_from (under (flat_map (nets_renamed run.source) told)) 0 nets }) last

-- ---- plans

at_map : {A B : Type 0} (f : A → B) (xs : List A) (i : ℕ) (d : A) → slice_index_or (map f xs) i (f d) ≡ f (slice_index_or xs i d)
at_map f [] i d = refl
at_map f (x ∷ xs) zero d = refl
at_map f (x ∷ xs) (suc i) d = at_map f xs i d

-- the plan of a number is that of the cell of the number
pub plan_found : (rails : List (List ℕ)) (subs : List Sub) (plans : List Plan) (cell : ℕ) (plan : Plan) → plans ≡ map (plan_of rails) subs → cell < length plans → plan ≡ get_or plans cell plan → plan ≡ plan_of rails (sub_at subs cell)
plan_found rails subs plans cell plan are lt is =
    let none : Sub = record { line = 0; head = record { name = []; ports = [] }; cards = [] } in
    let other = plan_of rails none in
    is
    ∙ sym (get_or_from_slice_get plans cell (get_or plans cell plan) other (slice_get-get_or plans cell plan lt))
    ∙ ap (λ ps. get_or ps cell other) are
    ∙ at_map (plan_of rails) subs cell none
