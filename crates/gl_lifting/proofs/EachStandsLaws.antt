-- Each original device has a device of the flattened lifted deck that stands for it; and new nets differ, so new names of nets do.
use Rattle.std.proofs.Common.{◌≡◌, ◌<◌, ◌≤◌, ◌∙◌, ℕ, List, [], ◌∷◌, length, get_or, map, cond, eqb, Bool, true, false, Option, Some, None, refl, sym, ap, subst, arith, inl, inr, flat_map}
use Rattle.std.specs.Prelude.{◌⊎◌, Contains, find, zip}
use Rattle.std.specs.Option.{option_map, unwrap_or}
use Rattle.std.specs.List.{AllByRecursion}
use Rattle.std.proofs.lemmas.Bool.{cases_Bool, cases_lt, eqb-true}
use Rattle.std.proofs.lemmas.List.{length-map}
use Rattle.std.proofs.lemmas.List.Elements.{Contains-get_or}
use Rattle.std.proofs.lemmas.Option.{slice_get_within, get_or_from_slice_get, same_Some as some_is}
use Rattle.gl_match.proofs.Lists.{Once, in_head, in_tail, in_cons, in_map, from_map, in_flat_map, from_flat_map}
use Rattle.gl_match.specs.Graph.{device_at}
use Rattle.gl_text.specs.LogicalLines.{same_text}
use Rattle.gl_text.specs.Cards.{Device as Card}
use Rattle.gl_text.specs.Decks.{is_in}
use Rattle.gl_text.specs.Flattening.{FlatDevice, Net, Bearer, device, net, top_net, bearers, net_name, device_name}
use Rattle.gl_base.specs.BaseCircuit.{nets_of}
use Rattle.gl_base.specs.Reports.{name_at}
use Rattle.gl_base.proofs.OnceLaws as onces
use Rattle.gl_base.proofs.TextLaws.{exact, itself, each_once}
use Rattle.gl_lifting.specs.Runs.{Run, cell_nets, first_circuit}
use Rattle.gl_lifting.specs.Replacement.{Composite}
use Rattle.gl_lifting.specs.Histories.{History}
use Rattle.gl_lifting.specs.NameMaps.{Located, under, all_located}
use Rattle.gl_lifting.specs.Pairing.{net_image}
use Rattle.gl_lifting.proofs.FlatCardLaws.{in_each, once_by_place}
use Rattle.gl_lifting.proofs.RestoredLaws.{pigeons}
use Rattle.gl_lifting.proofs.ClashLaws.{Agree}
use Rattle.gl_lifting.proofs.InnerRowLaws.{image_beside}
use Rattle.gl_lifting.proofs.NetTableLaws.{net_rows, row_from}
use Rattle.gl_lifting.proofs.WalkLaws.{IsGood}
use Rattle.gl_lists.proofs.Bools.{not_both}

-- places of one item are one, where each stands once
once_at : (xs : List (List ℕ)) (i j : ℕ) → Once xs → i < length xs → j < length xs → get_or xs i [] ≡ get_or xs j [] → i ≡ j
once_at xs i j once li lj e = elim (cases_lt i j) [
  | inl before ↦ absurd (onces.once_apart xs [] i j once before lj e)
  | inr late ↦ elim (cases_lt j i) [
    | inl behind ↦ absurd (onces.once_apart xs [] j i once behind li (sym e))
    | inr same ↦ omega (arith, late, same)
  ]
]

-- names that differ, among no more names, are all of these
all_there : (xs ys : List (List ℕ)) → Once xs → Once ys → length ys ≤ length xs → ((x : List ℕ) → Contains xs x → Contains ys x) → (y : List ℕ) → Contains ys y → Contains xs y
all_there xs ys ox oy le inside y at = elim (cases_Bool (is_in y xs)) [
  | inl on ↦ onces.there same_text exact itself xs y on
  | inr off ↦
      let none : Contains xs y → ⊥ = λ k. not_both (is_in y xs) (onces.found same_text exact itself xs y k) off in
      let more = onces.no_more (y ∷ xs) ys (none, ox) oy (λ z k. elim (in_cons y xs z k) [ inl same ↦ subst (λ w. Contains ys w) same at | inr later ↦ inside z later ]) in
      absurd (omega (arith, more, le))
]

module _ (run : Run) (cards : List Card) (devices : List (List ℕ)) (new : ℕ → Net) (ds : List FlatDevice) (good : AllByRecursion (IsGood run cards devices new) ds) (once : Once (map device_name ds)) (many : length ds ≡ length cards) (long : length devices ≡ length cards) where
  -- the names of the devices are new names
  pub named_new : (x : List ℕ) → Contains (map device_name ds) x → Contains devices x
  named_new x at =
      let r = from_map device_name ds x at in
      let g = in_each (IsGood run cards devices new) ds r.0 good r.1 in
      subst (λ y. Contains devices y) (sym g.named ∙ r.2) (Contains-get_or devices g.dev [] (omega (arith, g.lies, long)))

  -- so new names of devices differ
  pub devices_once : Once devices
  devices_once = pigeons (map device_name ds) devices once (omega (arith, length-map ds device_name, many, long)) named_new

  -- and each original device has one that stands for it
  pub stands_for : (k : ℕ) → k < length cards → (d : FlatDevice) × Contains ds d × (g : IsGood run cards devices new d) × (g.dev ≡ k)
  stands_for k lt =
      let name = name_at devices k in
      let here = Contains-get_or devices k [] (omega (arith, lt, long)) in
      let there = all_there (map device_name ds) devices once devices_once (omega (arith, length-map ds device_name, many, long)) named_new name here in
      let r = from_map device_name ds name there in
      let g = in_each (IsGood run cards devices new) ds r.0 good r.1 in
      (r.0, r.1, g, once_at devices g.dev k devices_once (omega (arith, g.lies, long)) (omega (arith, lt, long)) (sym g.named ∙ r.2))

  -- a net of an original device stands on a device
  pub net_stands : (k i : ℕ) → k < length cards → Contains (device_at (first_circuit run).devices k).nets i → Contains (flat_map bearers ds) (net (new i))
  net_stands k i lt at =
      let r = stands_for k lt in
      let nets : r.0.nets ≡ map new (device_at (first_circuit run).devices k).nets = r.2.netted ∙ ap (λ n. map new (device_at (first_circuit run).devices n).nets) r.3 in
      let own = subst (λ (ns : List Net). Contains ns (new i)) (sym nets) (in_map new (device_at (first_circuit run).devices k).nets i at) in
      in_flat_map bearers ds r.0 (net (new i)) r.1 (in_tail (device (device_name r.0)) (map net r.0.nets) (net (new i)) (in_map net r.0.nets (new i) own))

-- ---- new nets differ

-- what is found in a table stands there
under_there : (k : ℕ) (rows : List (ℕ × Net)) (n : Net) → under rows k ≡ Some n → (r : ℕ × Net) × Contains rows r × (r.0 ≡ k) × (r.1 ≡ n)
under_there k [] n e = absurd cc
under_there k (row ∷ rows) n e = by (eqb row.0 k) refl e (under_there k rows n) where
  by : (b : Bool) → eqb row.0 k ≡ b → option_map (λ (r : ℕ × Net). r.1) (cond b (Some row) (find (λ (r : ℕ × Net). eqb r.0 k) rows)) ≡ Some n → (under rows k ≡ Some n → (r : ℕ × Net) × Contains rows r × (r.0 ≡ k) × (r.1 ≡ n)) → (r : ℕ × Net) × Contains (row ∷ rows) r × (r.0 ≡ k) × (r.1 ≡ n)
  by true on f later = (row, in_head row rows, eqb-true row.0 k on, some_is row.1 n f)
  by false off f later = let r = later f in (r.0, in_tail row rows r.0 r.1, r.2, r.3)

module _ (run : Run) (h : History) (stem : List ℕ) (some_way : (l : Located) → Contains (all_located stem h) l → 0 < length l.way) (one_way : (l m : Located) → Contains (all_located stem h) l → Contains (all_located stem h) m → l.way ≡ m.way → l.composite ≡ m.composite) where
  abbrev olds : List (List ℕ)
  olds = nets_of run.source.devices

  abbrev new_net : ℕ → Net
  new_net i = unwrap_or (under (flat_map (net_rows run.source) (all_located stem h)) i) (top_net (name_at (nets_of run.source.devices) i))

  -- a new net is the top's, or an inner net of a composite whose image the original one is
  net_form : (i : ℕ) → (new_net i ≡ top_net (name_at olds i)) ⊎ ((l : Located) × Contains (all_located stem h) l × (name : List ℕ) × (new_net i ≡ record { path = l.way; name = name }) × (net_image l.composite name ≡ i))
  net_form i = by (under (flat_map (net_rows run.source) (all_located stem h)) i) refl where
    by : (o : Option Net) → under (flat_map (net_rows run.source) (all_located stem h)) i ≡ o → (new_net i ≡ top_net (name_at olds i)) ⊎ ((l : Located) × Contains (all_located stem h) l × (name : List ℕ) × (new_net i ≡ record { path = l.way; name = name }) × (net_image l.composite name ≡ i))
    by None e = inl (ap (λ o. unwrap_or o (top_net (name_at olds i))) e)
    by (Some n) e =
        let row = under_there i (flat_map (net_rows run.source) (all_located stem h)) n e in
        let r = from_flat_map (net_rows run.source) (all_located stem h) row.0 row.1 in
        let z = row_from run.source.rails r.0.composite.cell.head.ports r.0.way (zip (cell_nets r.0.composite.cell) r.0.composite.images) row.0 r.2 in
        let b = image_beside r.0.composite z.0 z.1 in
        inr (r.0, r.1, z.0.0, ap (λ o. unwrap_or o (top_net (name_at olds i))) e ∙ sym row.3 ∙ z.3, b.1 ∙ sym z.2 ∙ row.2)

  -- original nets of one new net are one
  one_net : (i j : ℕ) → i < length olds → j < length olds → new_net i ≡ new_net j → i ≡ j
  one_net i j li lj e = elim (net_form i) [
    | inl top ↦ elim (net_form j) [
      | inl too ↦ once_at olds i j (each_once (flat_map (λ (c : Card). c.nodes) run.source.devices)) li lj (ap (λ (n : Net). n.name) (sym top ∙ e ∙ too))
      | inr b ↦ absurd (let w = ap (λ (n : Net). length n.path) (sym top ∙ e ∙ b.3) in omega (arith, w, some_way b.0 b.1))
    ]
    | inr a ↦ elim (net_form j) [
      | inl too ↦ absurd (let w = ap (λ (n : Net). length n.path) (sym too ∙ sym e ∙ a.3) in omega (arith, w, some_way a.0 a.1))
      | inr b ↦
          let same = sym a.3 ∙ e ∙ b.3 in
          let c = one_way a.0 b.0 a.1 b.1 (ap (λ (n : Net). n.path) same) in
          sym a.4 ∙ ap (λ (x : Composite). net_image x a.2) c ∙ ap (net_image b.0.composite) (ap (λ (n : Net). n.name) same) ∙ b.4
    ]
  ]

  -- so new names differ, where nets of one name are one
  pub news_once : (news : List (List ℕ)) → length news ≡ length olds → ((i : ℕ) → i < length olds → name_at news i ≡ net_name (new_net i)) → (bs : List Bearer) → Agree bs → ((i : ℕ) → i < length olds → Contains bs (net (new_net i))) → Once news
  news_once news long named bs agree stand = once_by_place news (λ i j a b ea eb same.
      let li : i < length olds = omega (arith, slice_get_within news i a ea, long) in
      let lj : j < length olds = omega (arith, slice_get_within news j b eb, long) in
      one_net i j li lj (agree (new_net i) (new_net j) (stand i li) (stand j lj) (sym (named i li) ∙ get_or_from_slice_get news i a [] ea ∙ same ∙ sym (get_or_from_slice_get news j b [] eb) ∙ named j lj)))
