-- New names: those of original devices and nets, by the composite that has them; nets of the last circuit and rails keep theirs.
use Rattle.std.proofs.Common.{◌≡◌, ◌<◌, ◌≤◌, ◌∙◌, ◌+◌, ℕ, zero, suc, List, [], ◌∷◌, length, get_or, map, cond, Bool, true, false, Option, Some, None, refl, sym, ap, subst, arith, inl, inr, flat_map}
use Rattle.std.specs.Prelude.{◌||◌, Contains, position, slice_get, zip}
use Rattle.std.specs.Option.{unwrap_or}
use Rattle.std.specs.List.{enumerate_from, list_any, position_or_len}
use Rattle.std.proofs.lemmas.Bool.{cases_lt, eq-eqb, or_right}
use Rattle.gl_match.proofs.AtLaws.{get_any}
use Rattle.std.proofs.lemmas.List.{length-map}
use Rattle.std.proofs.lemmas.Option.{slice_get_within, same_Some as some_is}
use Rattle.gl_match.proofs.Lists.{in_head, in_tail}
use Rattle.gl_match.specs.declared.role.Role.TheVariants.{Rail, Inner}
use Rattle.gl_match.specs.Graph.{is_some_at, is_rail_net}
use Rattle.gl_text.specs.LogicalLines.{same_text}
use Rattle.gl_text.specs.Cards.{Device as Card}
use Rattle.gl_text.specs.Decks.{dev_at}
use Rattle.gl_text.specs.Flattening.{Net, top_net, is_rail, net_of, net_name, device_name}
use Rattle.gl_base.specs.BaseCircuit.{nets_of, net_number}
use Rattle.gl_base.specs.Patterns.{role_by, role_of}
use Rattle.gl_base.specs.Rails.{all_rails}
use Rattle.gl_base.specs.Reports.{name_at}
use Rattle.gl_base.proofs.OnceLaws as onces
use Rattle.gl_base.proofs.TextLaws.{exact, itself}
use Rattle.gl_lifting.specs.Runs.{Run, cell_nets, first_circuit}
use Rattle.gl_lifting.specs.Replacement.{base, Part, Slot, Composite}
use Rattle.gl_lifting.specs.Histories.{History, IsLawful}
use Rattle.gl_lifting.specs.NameMaps.{Located, under, devices_renamed, nets_renamed, all_located, renamed_by}
use Rattle.gl_lifting.specs.Pairing.{net_image}
use Rattle.gl_lifting.specs.Renaming.{new_names}
use Rattle.gl_lifting.proofs.FlatCardLaws.{in_each}
use Rattle.gl_lifting.proofs.InnerRowLaws.{inner_sum}
use Rattle.gl_lifting.proofs.SeparateRoundLaws.{IsSeparated, RailsHome, HasImages}
use Rattle.gl_lifting.proofs.LocatedLaws.{one_of_all, device_under, device_stays}
use Rattle.gl_lifting.proofs.NetTableLaws.{net_rows, name_under, inner_under, outer_under}
use Rattle.gl_lists.proofs.Bools.{not_both}

-- ---- lists

-- the new name of a number
news_from : (table : List (ℕ × List ℕ)) (k : ℕ) (names : List (List ℕ)) (i : ℕ) → i < length names
    → get_or (map (λ (n : List ℕ × List ℕ). n.0) (map (λ (n : ℕ × List ℕ). (unwrap_or (under table n.0) n.1, n.1)) (enumerate_from k names))) i [] ≡ unwrap_or (under table (k + i)) (get_or names i [])
news_from table k [] i lt = absurd (omega (arith, lt))
news_from table k (n ∷ ns) zero lt = ap (λ j. unwrap_or (under table j) n) (let e : k ≡ k + 0 = omega arith in e)
news_from table k (n ∷ ns) (suc i) lt = news_from table (k + 1) ns i (omega (arith, lt)) ∙ ap (λ j. unwrap_or (under table j) (get_or ns i [])) (let e : k + 1 + i ≡ k + suc i = omega arith in e)

pub news_at : (table : List (ℕ × List ℕ)) (names : List (List ℕ)) (i : ℕ) → i < length names → name_at (new_names (renamed_by table names)) i ≡ unwrap_or (under table i) (name_at names i)
news_at table names i lt = news_from table 0 names i lt ∙ ap (λ j. unwrap_or (under table j) (get_or names i [])) (let e : 0 + i ≡ i = omega arith in e)

pub news_long : (table : List (ℕ × List ℕ)) (names : List (List ℕ)) → length (new_names (renamed_by table names)) ≡ length names
news_long table names = length-map (renamed_by table names) (λ (n : List ℕ × List ℕ). n.0) ∙ length-map (enumerate_from 0 names) (λ (n : ℕ × List ℕ). (unwrap_or (under table n.0) n.1, n.1)) ∙ enumerated 0 names where
  enumerated : (k : ℕ) (names : List (List ℕ)) → length (enumerate_from k names) ≡ length names
  enumerated k [] = refl
  enumerated k (n ∷ ns) = ap suc (enumerated (k + 1) ns)

-- something beside a name
beside_name : (xs : List (List ℕ)) (ys : List ℕ) (k : ℕ) → k < length xs → length ys ≡ length xs → Contains (zip xs ys) (get_or xs k [], get_or ys k 0)
beside_name [] ys k lt e = absurd (omega (arith, lt))
beside_name (x ∷ xs) [] k lt e = absurd (omega (arith, e))
beside_name (x ∷ xs) (y ∷ ys) zero lt e = in_head (x, y) (zip xs ys)
beside_name (x ∷ xs) (y ∷ ys) (suc k) lt e = in_tail (x, y) (zip xs ys) (get_or xs k [], get_or ys k 0) (beside_name xs ys k (omega (arith, lt)) (omega (arith, e)))

-- a net of a rail is a rail's
rail_there : (rails : List (Option ℕ)) (r i : ℕ) → slice_get rails r ≡ Some (Some i) → list_any (is_some_at i) rails ≡ true
rail_there [] r i e = absurd (let lt = slice_get_within [] r (Some i) e in omega (arith, lt))
rail_there (x ∷ rails) zero i e = ap (λ b. b || list_any (is_some_at i) rails) (by x e) where
  by : (x : Option ℕ) → Some x ≡ Some (Some i) → is_some_at i x ≡ true
  by None f = absurd cc
  by (Some j) f = eq-eqb j i (some_is j i (some_is (Some j) (Some i) f))
rail_there (x ∷ rails) (suc r) i e = or_right (is_some_at i x) (list_any (is_some_at i) rails) (rail_there rails r i e)

-- the name at a place that a test finds
found_at : (names nets : List (List ℕ)) (r i : ℕ) → slice_get (map (λ rail. position (same_text rail) nets) names) r ≡ Some (Some i) → (i < length nets) × (get_or nets i [] ≡ get_or names r []) × (r < length names)
found_at [] nets r i e = absurd (let lt = slice_get_within [] r (Some i) e in omega (arith, lt))
found_at (n ∷ ns) nets zero i e = let p = onces.position_back same_text exact itself nets n [] i (some_is (position (same_text n) nets) (Some i) e) in (p.0, p.1, omega arith)
found_at (n ∷ ns) nets (suc r) i e = let p = found_at ns nets r i e in (p.0, p.1, omega (arith, p.2))

module _ (run : Run) (h : History) (stem : List ℕ) (lawful : IsLawful run h) (sep : IsSeparated run h.last) where
  abbrev nets : List (List ℕ)
  nets = nets_of run.source.devices

  abbrev all : List Located
  all = all_located stem h

  -- the new net of a number: an inner net below the way of its composite, or a net of the top
  abbrev pub new_net : ℕ → Net
  new_net i = unwrap_or (under (flat_map (net_rows run.source) (all_located stem h)) i) (top_net (name_at (nets_of run.source.devices) i))

  -- its name is the new name
  pub new_name_is : (i : ℕ) → i < length (nets_of run.source.devices) → name_at (new_names (renamed_by (flat_map (nets_renamed run.source) (all_located stem h)) (nets_of run.source.devices))) i ≡ net_name (new_net i)
  new_name_is i lt = news_at (flat_map (nets_renamed run.source) (all_located stem h)) (nets_of run.source.devices) i lt ∙ name_under run h stem lawful i (name_at (nets_of run.source.devices) i)

  -- the new names of devices

  abbrev pub new_devices : List (List ℕ) → List (List ℕ)
  new_devices names = new_names (renamed_by (flat_map devices_renamed (all_located stem h)) names)

  -- a net that is no inner net's image stays at the top
  outer_stays : (i : ℕ) → inner_sum run.source i h.last.composites ≤ 0 → new_net i ≡ top_net (name_at nets i)
  outer_stays i le = ap (λ o. unwrap_or o (top_net (name_at nets i))) (outer_under run h stem lawful i le)

  -- so does a net of the last circuit
  pub slot_stays : (t : Slot) → Contains h.last.slots t → (i : ℕ) → Contains t.device.nets i → new_net i ≡ top_net (name_at nets i)
  slot_stays t at i on = outer_stays i
      (elim (cases_lt 0 (inner_sum run.source i h.last.composites)) [
        | inl some ↦ absurd (in_each (λ (x : Slot). Contains x.device.nets i → ⊥) h.last.slots t ((sep.nets i).free (omega (arith, some))) at on)
        | inr none ↦ none
      ])

  -- a rail of a cell keeps its name
  rail_name : (c : Composite) → Contains h.last.composites c → (name : List ℕ) → Contains (cell_nets c.cell) name → (r : ℕ) → position (same_text name) (all_rails run.source.rails) ≡ Some r → new_net (net_image c name) ≡ top_net name
  rail_name c ac name at r e =
      let i = net_image c name in
      let role : role_of run.source.rails c.cell.head.ports name ≡ Rail r = ap (λ o. role_by o (position (same_text name) c.cell.head.ports)) e in
      let home = in_each (RailsHome run) h.last.composites c sep.rails ac name r at role in
      let p = found_at (all_rails run.source.rails) nets r i home in
      let q = onces.position_back same_text exact itself (all_rails run.source.rails) name [] r e in
      let none : inner_sum run.source i h.last.composites ≤ 0 = elim (cases_lt 0 (inner_sum run.source i h.last.composites)) [
        | inl some ↦ absurd (not_both (is_rail_net (first_circuit run) i) (rail_there (first_circuit run).rails r i home) ((sep.nets i).no_rail (omega (arith, some))))
        | inr none ↦ none
      ] in
      outer_stays i none ∙ ap top_net (p.1 ∙ q.1)

  -- an inner net is below the composite
  inner_net : (l : Located) → Contains all l → (name : List ℕ) → Contains (cell_nets l.composite.cell) name → role_of run.source.rails l.composite.cell.head.ports name ≡ Inner → new_net (net_image l.composite name) ≡ record { path = l.way; name = name }
  inner_net l al name at role =
      let c = l.composite in
      let ac = one_of_all run h stem lawful l al in
      let own = in_each (HasImages run) h.last.composites c sep.images ac in
      let i = net_image c name in
      let lt = onces.place_within same_text exact itself (cell_nets c.cell) name at in
      let pair = subst (λ x. Contains (zip (cell_nets c.cell) c.images) (x, i)) (onces.place_back same_text exact itself (cell_nets c.cell) name [] at) (beside_name (cell_nets c.cell) c.images (net_number (cell_nets c.cell) name) lt own.long) in
      ap (λ o. unwrap_or o (top_net (name_at nets i))) (inner_under run h stem lawful i (sep.nets i).once l al name pair role)

  -- names of a cell that are no ports: rails as they are, and others below the composite
  pub other_nets : (l : Located) → Contains all l → (name : List ℕ) → Contains (cell_nets l.composite.cell) name → (Contains l.composite.cell.head.ports name → ⊥) → net_of run.source.rails (record { path = l.way; ports = [] }) name ≡ new_net (net_image l.composite name)
  other_nets l al name at no_port = by (is_rail run.source.rails name) refl where
    by : (b : Bool) → is_rail run.source.rails name ≡ b → cond (is_rail run.source.rails name) (top_net name) (record { path = l.way; name = name }) ≡ new_net (net_image l.composite name)
    by true on = rw on (sym (rail_name l.composite (one_of_all run h stem lawful l al) name at (position_or_len (same_text name) (all_rails run.source.rails)) (onces.position_there same_text exact itself (all_rails run.source.rails) name (is_there on)))) where
      is_there : is_rail run.source.rails name ≡ true → Contains (all_rails run.source.rails) name
      is_there on = onces.there same_text exact itself (all_rails run.source.rails) name on
    by false off = rw off (sym (inner_net l al name at (role (position (same_text name) (all_rails run.source.rails)) refl (position (same_text name) l.composite.cell.head.ports) refl))) where
      role : (a : Option ℕ) → position (same_text name) (all_rails run.source.rails) ≡ a → (b : Option ℕ) → position (same_text name) l.composite.cell.head.ports ≡ b → role_by a b ≡ Inner
      role (Some r) e b f = absurd (let p = onces.position_back same_text exact itself (all_rails run.source.rails) name [] r e in not_there off (r, p.0, get_any (all_rails run.source.rails) r name [] p.0 ∙ p.1)) where
        not_there : is_rail run.source.rails name ≡ false → Contains (all_rails run.source.rails) name → ⊥
        not_there off at = not_both (is_rail run.source.rails name) (onces.found same_text exact itself (all_rails run.source.rails) name at) off
      role None e (Some k) f = absurd (let p = onces.position_back same_text exact itself l.composite.cell.head.ports name [] k f in no_port (k, p.0, get_any l.composite.cell.head.ports k name [] p.0 ∙ p.1))
      role None e None f = refl

  -- the new name of an original device of a composite
  pub device_new : (names : List (List ℕ)) → length names ≡ length run.source.devices → (l : Located) → Contains all l → (line : ℕ) (d : Card) (p : Part) (dev : ℕ) → dev < length run.source.devices → Contains (zip l.composite.cell.cards l.composite.parts) (dev_at line d, p) → p.origin ≡ base dev
      → name_at (new_devices names) dev ≡ device_name (record { path = l.way; card = d; nets = [] })
  device_new names long l al line d p dev lt there e = news_at (flat_map devices_renamed all) names dev (omega (arith, lt, long)) ∙ ap (λ o. unwrap_or o (name_at names dev)) (device_under run h stem lawful l al line d p dev lt there e)

  -- one of the last circuit keeps its name
  pub slot_device_stays : (names : List (List ℕ)) → length names ≡ length run.source.devices → (t : Slot) → Contains h.last.slots t → (dev : ℕ) → dev < length run.source.devices → t.origin ≡ base dev → name_at (new_devices names) dev ≡ name_at names dev
  slot_device_stays names long t at dev lt e = news_at (flat_map devices_renamed all) names dev (omega (arith, lt, long)) ∙ ap (λ o. unwrap_or o (name_at names dev)) (device_stays run h stem lawful t at dev lt e)
