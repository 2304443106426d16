-- New names lead back: a map of names that differ takes the new name of each net to its old one; and shapes of types that a run has are theirs.
use Rattle.std.proofs.Common.{◌≡◌, ◌<◌, ◌∙◌, ◌+◌, ℕ, List, [], ◌∷◌, length, get_or, map, cond, false, true, Some, sym, ap, subst, arith, inl, inr, flat_map}
use Rattle.std.specs.Prelude.{Contains, find}
use Rattle.std.specs.Option.{unwrap_or, option_map}
use Rattle.std.specs.List.{enumerate_from}
use Rattle.std.proofs.lemmas.Bool.{cases_Bool}
use Rattle.std.proofs.lemmas.List.{get_or-map}
use Rattle.std.proofs.lemmas.List.FromFn.{length-range_with_len}
use Rattle.std.proofs.lemmas.List.Elements.{Contains-append_right}
use Rattle.gl_match.proofs.Lists.{Once, in_none, in_cons, in_map, in_enumerate}
use Rattle.gl_match.specs.Graph.{shape_at}
use Rattle.gl_text.specs.LogicalLines.{same_text}
use Rattle.gl_text.specs.Decks.{Sub, has_twice}
use Rattle.gl_text.specs.Flattening.{Flat}
use Rattle.gl_base.specs.TypeNames.{TypeName, same_type, classes_of}
use Rattle.gl_base.specs.BaseCircuit.{Source, nets_of, type_number}
use Rattle.gl_base.specs.Rounds.{cards_of}
use Rattle.gl_base.proofs.OnceLaws.{place_within, place_back}
use Rattle.gl_base.proofs.TextLaws.{exact, itself, once_from}
use Rattle.gl_base.proofs.TypeLaws.{exact as type_exact, itself as type_itself}
use Rattle.gl_lifting.specs.Runs.{Run, run_types, cell_type, first_circuit}
use Rattle.gl_lifting.specs.Histories.{History}
use Rattle.gl_lifting.specs.NameMaps.{under, renamed_by, all_located, devices_renamed, nets_renamed, map_of}
use Rattle.gl_lifting.specs.Renaming.{old_name, new_names, names_of_devices}

-- where new names differ, a line's new name leads to its old one
line_back : (ls : List (List ℕ × List ℕ)) (n : List ℕ × List ℕ) → Once (new_names ls) → Contains ls n → old_name ls n.0 ≡ n.1
line_back [] n o h = absurd (in_none n h)
line_back (l ∷ ls) n o h =
    elim (cases_Bool (same_text l.0 n.0)) [
      | inl on ↦ ap (λ b. unwrap_or (option_map (λ (x : List ℕ × List ℕ). x.1) (cond b (Some l) (find (λ (x : List ℕ × List ℕ). same_text x.0 n.0) ls))) []) on ∙ elim (in_cons l ls n h) [
        | inl same ↦ ap (λ (x : List ℕ × List ℕ). x.1) same
        | inr later ↦ absurd (o.0 (subst (λ z. Contains (new_names ls) z) (sym (exact l.0 n.0 on)) (in_map (λ (x : List ℕ × List ℕ). x.0) ls n later)))
      ]
      | inr off ↦ ap (λ b. unwrap_or (option_map (λ (x : List ℕ × List ℕ). x.1) (cond b (Some l) (find (λ (x : List ℕ × List ℕ). same_text x.0 n.0) ls))) []) off ∙ elim (in_cons l ls n h) [
        | inl same ↦ let on : same_text l.0 n.0 ≡ true = ap (λ (x : List ℕ × List ℕ). same_text x.0 n.0) same ∙ itself n.0 in absurd cc
        | inr later ↦ line_back ls n o.1 later
      ]
    ]

pub line_leads_back : (ls : List (List ℕ × List ℕ)) (n : List ℕ × List ℕ) → has_twice (new_names ls) ≡ false → Contains ls n → old_name ls n.0 ≡ n.1
line_leads_back ls n e h = line_back ls n (once_from (new_names ls) e) h

-- the line of a number
line_at : (table : List (ℕ × List ℕ)) (names : List (List ℕ)) (i : ℕ) → i < length names → Contains (renamed_by table names) (unwrap_or (under table i) (get_or names i []), get_or names i [])
line_at table names i lt =
    let place : Contains (enumerate_from 0 names) (i, get_or names i []) = subst (λ k. Contains (enumerate_from 0 names) (k, get_or names i [])) (let e : 0 + i ≡ i = omega arith in e) (in_enumerate 0 names i [] lt) in
    in_map (λ (n : ℕ × List ℕ). (unwrap_or (under table n.0) n.1, n.1)) (enumerate_from 0 names) (i, get_or names i []) place

pub device_line : (stem : List ℕ) (flat : Flat) (s : Source) (h : History) (i : ℕ) → i < length (names_of_devices flat) → Contains (map_of stem flat s h).devices (unwrap_or (under (flat_map devices_renamed (all_located stem h)) i) (get_or (names_of_devices flat) i []), get_or (names_of_devices flat) i [])
device_line stem flat s h i lt = line_at (flat_map devices_renamed (all_located stem h)) (names_of_devices flat) i lt

pub net_line : (stem : List ℕ) (flat : Flat) (s : Source) (h : History) (i : ℕ) → i < length (nets_of (cards_of flat)) → Contains (map_of stem flat s h).nets (unwrap_or (under (flat_map (nets_renamed s) (all_located stem h)) i) (get_or (nets_of (cards_of flat)) i []), get_or (nets_of (cards_of flat)) i [])
net_line stem flat s h i lt = line_at (flat_map (nets_renamed s) (all_located stem h)) (nets_of (cards_of flat)) i lt

-- the new name of a net leads to its old one
pub net_back : (stem : List ℕ) (flat : Flat) (s : Source) (h : History) → has_twice (new_names (map_of stem flat s h).nets) ≡ false → (i : ℕ) → i < length (nets_of (cards_of flat))
    → old_name (map_of stem flat s h).nets (unwrap_or (under (flat_map (nets_renamed s) (all_located stem h)) i) (get_or (nets_of (cards_of flat)) i [])) ≡ get_or (nets_of (cards_of flat)) i []
net_back stem flat s h e i lt = line_leads_back (map_of stem flat s h).nets _ e (net_line stem flat s h i lt)

-- ---- shapes

-- the shape of a type that a run has is the type's
pub shape_of : (run : Run) (t : TypeName) → Contains (run_types run) t → shape_at (first_circuit run) (type_number (run_types run) t) ≡ classes_of t
shape_of run t h =
    let types = run_types run in
    get_or-map classes_of types (type_number types t) t [] (place_within same_type type_exact type_itself types t h) ∙ ap classes_of (place_back same_type type_exact type_itself types t t h)

-- and a cell's has so many places as the cell has ports
pub ports_of_shape : (run : Run) (cell : Sub) → Contains run.library.deck.subs cell → length cell.head.ports ≡ length (shape_at (first_circuit run) (type_number (run_types run) (cell_type cell)))
ports_of_shape run cell h =
    let known = Contains-append_right _ (map cell_type run.library.deck.subs) (cell_type cell) (in_map cell_type run.library.deck.subs cell h) in
    sym (ap length (shape_of run (cell_type cell) known) ∙ length-range_with_len 0 (length cell.head.ports))
