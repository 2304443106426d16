-- What stands at the top of the flattened lifted deck: original devices, and below each composite what its cell is flattened to.
use Rattle.std.proofs.Common.{◌≡◌, ◌<◌, ◌^◌, ◌∙◌, ℕ, List, [], ◌∷◌, ◌++◌, length, map, cond, Bool, true, false, Some, None, refl, sym, ap, subst, arith, inl, inr}
use Rattle.std.specs.Prelude.{◌⊎◌, Contains, flat_map, zip}
use Rattle.std.specs.Option.{unwrap_or}
use Rattle.std.specs.List.{AllByRecursion, AllZip}
use Rattle.std.proofs.lemmas.List.{append_cancel_left}
use Rattle.gl_match.proofs.Lists.{Once, in_head, in_tail, in_none, in_map, from_map, in_flat_map}
use Rattle.gl_match.specs.Graph.{Device}
use Rattle.gl_text.specs.LogicalLines.{same_text}
use Rattle.gl_text.specs.Cards.{Device as Card, first_byte}
use Rattle.gl_text.specs.Decks.{Sub, find_sub}
use Rattle.gl_text.specs.Flattening.{Net, FlatDevice, Place, device, net, top_place, top_net, is_rail, actual, net_of, bearers, path_text, device_name, devices_of, flat_devices, first_clash}
use Rattle.gl_printed.proofs.Each.{each_to}
use Rattle.gl_printed.proofs.PickedCards.{each_flat}
use Rattle.gl_base.specs.BaseCircuit.{Source, nets_of}
use Rattle.gl_base.specs.Reports.{name_at}
use Rattle.gl_base.specs.RoundReports.{instance_name}
use Rattle.gl_base.specs.Stems.{StandsIn}
use Rattle.gl_lifting.specs.Replacement.{Origin, base, made, Slot, Composite}
use Rattle.gl_lifting.specs.Variants.{variant_of, card_at}
use Rattle.gl_lifting.specs.LiftedDecks.{slot_card}
use Rattle.gl_lifting.proofs.VariantNameLaws.{cons_head, cons_tail}
use Rattle.gl_lifting.proofs.FlatCardLaws.{in_each}
use Rattle.gl_lifting.proofs.BelowLaws.{below_is, stem_behind, name_is, device_below, inside_is}
use Rattle.gl_lifting.proofs.BesideLaws.{once_beside, each_beside}
use Rattle.gl_lifting.proofs.ClashLaws.{Agree}
use Rattle.gl_lifting.proofs.WholeTopLaws.{none_clash, all_once}
use Rattle.gl_lifting.proofs.ExpandLaws.{composite_sub}
use Rattle.gl_lifting.proofs.TreeLaws.{TopCall, SlotTree}
use Rattle.gl_lifting.proofs.TwinLaws.{Stems, Twin, twins}

module _ (s : Source) (cards : List Card) (cs : List Composite) (names : List (List ℕ)) (numbers : List ℕ) (subs cells : List Sub) (rails own : List (List ℕ)) (stem : List ℕ)
    (Old : List ℕ → Type 0) (rails_old : (name : List ℕ) → is_rail rails name ≡ true → Old name) (old_free : (name : List ℕ) → Old name → StandsIn stem name → ⊥)
    (old_nodes : (dev : ℕ) (name : List ℕ) → dev < length cards → Contains (card_at cards dev).nodes name → Old name) (old_nets : (net : ℕ) → net < length (nets_of cards) → Old (name_at (nets_of cards) net))
    (old_cards : (dev : ℕ) → dev < length cards → Old (card_at cards dev).name) (one_device : (i j : ℕ) → i < length cards → j < length cards → (card_at cards i).name ≡ (card_at cards j).name → i ≡ j)
    (found : (c : Composite) → Contains cs c → find_sub subs (name_at names (variant_of numbers c.number)) ≡ Some (composite_sub s cards names numbers c))
    (known : (c : Composite) → Contains cs c → find_sub cells c.cell.head.name ≡ Some c.cell)
    (fewer : (name : List ℕ) → is_rail rails name ≡ false → is_rail own name ≡ false)
    (low : (c : Composite) → Contains cs c → c.number < 2 ^ 64)
    (letters : (c : Composite) → Contains cs c → (e : FlatDevice) → Contains (flat_devices own cells 32 top_place c.cell.cards) e → ((x : List ℕ) (xs : List (List ℕ)) → e.path ≡ x ∷ xs → first_byte x ≡ 120) × (first_byte e.card.name ≡ 120 → ⊥))
    (differ : (c : Composite) → Contains cs c → Once (map device_name (flat_devices own cells 32 top_place c.cell.cards))) where
  -- the flat devices of a device of the last circuit
  abbrev pub expand : Slot → List FlatDevice
  expand t = devices_of rails subs (flat_devices rails subs 31) top_place (slot_card stem cards names numbers t)

  -- the devices of a composite's cell, flattened as a top
  abbrev pub cell_devices : Composite → List FlatDevice
  cell_devices c = flat_devices own cells 32 top_place c.cell.cards

  -- a net is the top's, of an old name, or one of a composite's cell below the composite
  abbrev pub KnownNet : Net → Type 0
  KnownNet m = ((m.path ≡ []) × Old m.name) ⊎ ((c : Composite) × Contains cs c × (n : Net) × Contains (flat_map bearers (cell_devices c)) (net n) × (m ≡ record { path = instance_name stem c.number ∷ n.path; name = n.name }))

  -- a name is that of a device of the last circuit, or stands below it
  abbrev pub Owned : Origin → List ℕ → Type 0
  Owned (base dev) name = (dev < length cards) × (name ≡ (card_at cards dev).name)
  Owned (made number) name = (c : Composite) × Contains cs c × (c.number ≡ number) × (rest : List ℕ) × (b : ℕ) × (name ≡ b ∷ 46 ∷ (instance_name stem number ++ 46 ∷ rest))

  -- names are owned by one
  pub owned_one : (o p : Origin) (name : List ℕ) → Owned o name → Owned p name → o ≡ p
  owned_one (base i) (base j) name h g = ap base (one_device i j h.0 g.0 (sym h.1 ∙ g.1))
  owned_one (base i) (made n) name h g = absurd (old_free (card_at cards i).name (old_cards i h.0) (subst (StandsIn stem) (sym g.5 ∙ h.1) (stem_behind stem g.3 n g.4)))
  owned_one (made m) (base j) name h g = absurd (old_free (card_at cards j).name (old_cards j g.0) (subst (StandsIn stem) (sym h.5 ∙ g.1) (stem_behind stem h.3 m h.4)))
  owned_one (made m) (made n) name h g =
      let same = sym h.5 ∙ g.5 in
      let inner = cons_tail 46 46 (instance_name stem m ++ 46 ∷ h.3) (instance_name stem n ++ 46 ∷ g.3) (cons_tail h.4 g.4 (46 ∷ (instance_name stem m ++ 46 ∷ h.3)) (46 ∷ (instance_name stem n ++ 46 ∷ g.3)) same) in
      ap made (below_is stem h.3 g.3 m n (subst (λ k. k < 2 ^ 64) h.2 (low h.0 h.1)) (subst (λ k. k < 2 ^ 64) g.2 (low g.0 g.1)) inner).0

  -- ---- a net of the top

  top_is : (rs : List (List ℕ)) (name : List ℕ) → net_of rs top_place name ≡ top_net name
  top_is rs name = by (is_rail rs name) where
    by : (b : Bool) → cond b (top_net name) (record { path = []; name = name }) ≡ top_net name
    by true = refl
    by false = refl

  -- ---- a composite at the top

  -- names see the top's nets, or nets below the composite
  top_met : (x : List ℕ) (ports nodes : List (List ℕ)) → ((name : List ℕ) → Contains nodes name → Old name) → (name : List ℕ) → (a : Net)
      → Stems Old (x ∷ []) a (net_of own top_place name) → Stems Old (x ∷ []) (unwrap_or (actual (zip ports (map (net_of rails top_place) nodes)) name) a) (net_of own top_place name)
  top_met x [] nodes old name a h = h
  top_met x (p ∷ ports) [] old name a h = h
  top_met x (p ∷ ports) (n ∷ nodes) old name a h = by (same_text p name) refl (top_met x ports nodes (λ y at. old y (in_tail n nodes y at)) name a h) where
    by : (b : Bool) → same_text p name ≡ b → Stems Old (x ∷ []) (unwrap_or (actual (zip ports (map (net_of rails top_place) nodes)) name) a) (net_of own top_place name)
        → Stems Old (x ∷ []) (unwrap_or (actual (zip (p ∷ ports) (map (net_of rails top_place) (n ∷ nodes))) name) a) (net_of own top_place name)
    by true e later = rw e (inl (ap (λ (m : Net). m.path) (top_is rails n), subst Old (sym (ap (λ (m : Net). m.name) (top_is rails n))) (old n (in_head n nodes))))
    by false e later = rw e later

  top_local : (x name : List ℕ) → Stems Old (x ∷ []) (cond (is_rail rails name) (top_net name) (record { path = x ∷ []; name = name })) (net_of own top_place name)
  top_local x name = subst (λ (m : Net). Stems Old (x ∷ []) (cond (is_rail rails name) (top_net name) (record { path = x ∷ []; name = name })) m) (sym (top_is own name)) (by (is_rail rails name) refl) where
    by : (b : Bool) → is_rail rails name ≡ b → Stems Old (x ∷ []) (cond (is_rail rails name) (top_net name) (record { path = x ∷ []; name = name })) (top_net name)
    by true e = rw e (inl (refl, rails_old name e))
    by false e = rw e (inr refl)

  -- a composite's devices, beside those of its cell
  pub top_twins : (d : Device) (number : ℕ) (g : TopCall s cards cs 15 number d.nets) → AllZip (Twin Old (instance_name stem number ∷ [])) (expand (record { device = d; origin = made number })) (cell_devices g.composite)
  top_twins d number g =
      let c = g.composite in
      let x = instance_name stem number in
      let nodes = map (name_at (nets_of cards)) d.nets in
      let old : (name : List ℕ) → Contains nodes name → Old name = λ name at. let r = from_map (name_at (nets_of cards)) d.nets name at in subst Old r.2 (old_nets r.0 (in_each (λ net. net < length (nets_of cards)) d.nets r.0 g.within r.1)) in
      let p : Place = record { path = x ∷ []; ports = zip c.cell.head.ports (map (net_of rails top_place) nodes) } in
      let called : find_sub subs (name_at names (variant_of numbers number)) ≡ Some (composite_sub s cards names numbers c) = ap (λ n. find_sub subs (name_at names (variant_of numbers n))) (sym g.number_is) ∙ found c g.stands in
      rw called (twins s cards cs names numbers subs cells rails own Old rails_old found known fewer (x ∷ []) 15 31 32 (omega arith) (omega arith) c.cell.cards c.parts g.parts p top_place refl
      (λ name. top_met x c.cell.head.ports nodes old name _ (top_local x name)))

  -- ---- what stands at the top

  -- devices of the last circuit own their names, which differ, and nets are known
  pub record IsOwned (o : Origin) (ds : List FlatDevice) : Type 0 where
    pub owned : AllByRecursion (λ (d : FlatDevice). Owned o (device_name d)) ds
    pub apart : Once (map device_name ds)
    pub all_known : AllByRecursion (λ (d : FlatDevice). (m : Net) → Contains d.nets m → KnownNet m) ds

  -- an original device
  base_owned : (d : Device) (dev : ℕ) → dev < length cards → IsOwned (base dev) (expand (record { device = d; origin = base dev }))
  base_owned d dev lt = record {
    owned = ((lt, refl), tt);
    apart = ((λ at. in_none (card_at cards dev).name at), tt);
    all_known = (
      (λ m at. let r = from_map (net_of rails top_place) (card_at cards dev).nodes m at in
          inl (ap (λ (n : Net). n.path) (sym r.2 ∙ top_is rails r.0), subst Old (ap (λ (n : Net). n.name) (sym (top_is rails r.0) ∙ r.2)) (old_nodes dev r.0 lt r.1))),
      tt,
    );
  }

  -- a composite
  made_owned : (d : Device) (number : ℕ) → TopCall s cards cs 15 number d.nets → IsOwned (made number) (expand (record { device = d; origin = made number }))
  made_owned d number g =
      let c = g.composite in
      let x = instance_name stem number in
      let ds = expand (record { device = d; origin = made number }) in
      let es = cell_devices c in
      let zs = top_twins d number g in
      record {
        owned = each_beside (Twin Old (x ∷ [])) (λ (e : FlatDevice). Owned (made number) (device_name e)) ds es zs (λ e f at t. (c, g.stands, g.number_is, path_text f.path ++ f.card.name, first_byte f.card.name, device_below x e f.path f.card.name t.path t.name));
        apart = once_beside (Twin Old (x ∷ [])) device_name device_name ds es zs (λ e k f l af al t u same. told x e k f l t u (letters c g.stands f af) (letters c g.stands l al) same) (differ c g.stands);
        all_known = each_beside (Twin Old (x ∷ [])) (λ (e : FlatDevice). (m : Net) → Contains e.nets m → KnownNet m) ds es zs (λ e f at t m am. net_known number c g.stands g.number_is f at m (t.nets m am));
      }
    where
      told : (x : List ℕ) (e k f l : FlatDevice) → Twin Old (x ∷ []) e f → Twin Old (x ∷ []) k l
          → ((y : List ℕ) (ys : List (List ℕ)) → f.path ≡ y ∷ ys → first_byte y ≡ 120) × (first_byte f.card.name ≡ 120 → ⊥) → ((y : List ℕ) (ys : List (List ℕ)) → l.path ≡ y ∷ ys → first_byte y ≡ 120) × (first_byte l.card.name ≡ 120 → ⊥)
          → device_name e ≡ device_name k → device_name f ≡ device_name l
      told x e k f l t u bf bl same =
          let a = path_text f.path ++ f.card.name in
          let b = path_text l.path ++ l.card.name in
          let whole = sym (device_below x e f.path f.card.name t.path t.name) ∙ same ∙ device_below x k l.path l.card.name u.path u.name in
          let letter = cons_head (first_byte f.card.name) (first_byte l.card.name) (46 ∷ (x ++ 46 ∷ a)) (46 ∷ (x ++ 46 ∷ b)) whole in
          let behind = cons_tail 46 46 (x ++ 46 ∷ a) (x ++ 46 ∷ b) (cons_tail (first_byte f.card.name) (first_byte l.card.name) (46 ∷ (x ++ 46 ∷ a)) (46 ∷ (x ++ 46 ∷ b)) whole) in
          let inner = cons_tail 46 46 a b (append_cancel_left x (46 ∷ a) (46 ∷ b) behind) in
          name_is f ∙ inside_is f.path l.path f.card.name l.card.name bf.0 bl.0 bf.1 bl.1 letter inner ∙ sym (name_is l)

      net_known : (number : ℕ) (c : Composite) → Contains cs c → c.number ≡ number → (f : FlatDevice) → Contains (cell_devices c) f → (m : Net) → (n : Net) × Contains f.nets n × Stems Old (instance_name stem number ∷ []) m n → KnownNet m
      net_known number c stands number_is f at m r = elim r.2 [
        | inl top ↦ inl top
        | inr below ↦ inr (
          c,
          stands,
          r.0,
          in_flat_map bearers (cell_devices c) f (net r.0) at (in_tail (device (device_name f)) (map net f.nets) (net r.0) (in_map net f.nets r.0 r.1)),
          subst (λ k. m ≡ record { path = instance_name stem k ∷ r.0.path; name = r.0.name }) (sym number_is) below,
        )
      ]

  -- each device of the last circuit
  pub slot_owned : (t : Slot) → SlotTree s cards cs 15 t.device.nets t.origin → IsOwned t.origin (expand t)
  slot_owned t h = by t.origin h where
    by : (o : Origin) → SlotTree s cards cs 15 t.device.nets o → IsOwned o (expand (record { device = t.device; origin = o }))
    by (base dev) g = base_owned t.device dev g
    by (made number) g = made_owned t.device number g

  -- all of them
  all_owned : (slots : List Slot) → AllByRecursion (λ (t : Slot). SlotTree s cards cs 15 t.device.nets t.origin) slots → AllByRecursion (λ (t : Slot). IsOwned t.origin (expand t)) slots
  all_owned slots h = each_to (λ (t : Slot). SlotTree s cards cs 15 t.device.nets t.origin) (λ (t : Slot). IsOwned t.origin (expand t)) slot_owned slots h

  -- no flat names clash, where nets of each cell agree and no two devices come from one
  pub none_clash_there : ((c d : Composite) → Contains cs c → Contains cs d → c.number ≡ d.number → c ≡ d) → ((c : Composite) → Contains cs c → Agree (flat_map bearers (cell_devices c))) → (tops : List (List ℕ)) → ((name : List ℕ) → Contains tops name → Old name)
      → (slots : List Slot) → AllByRecursion (λ (t : Slot). SlotTree s cards cs 15 t.device.nets t.origin) slots → Once (map (λ (t : Slot). t.origin) slots) → first_clash (map (λ n. net (top_net n)) tops) (flat_map bearers (flat_map expand slots)) ≡ None
  none_clash_there one agree tops old slots h once =
      let own = all_owned slots h in
      let owned = each_to (λ (t : Slot). IsOwned t.origin (expand t)) (λ (t : Slot). AllByRecursion (λ (d : FlatDevice). Owned t.origin (device_name d)) (expand t)) (λ t g. g.owned) slots own in
      let apart = each_to (λ (t : Slot). IsOwned t.origin (expand t)) (λ (t : Slot). Once (map device_name (expand t))) (λ t g. g.apart) slots own in
      none_clash Old cs (λ c. flat_map bearers (cell_devices c)) stem old_free low one agree tops (flat_map expand slots) old
      (each_flat (λ (d : FlatDevice). (m : Net) → Contains d.nets m → KnownNet m) expand slots (each_to (λ (t : Slot). IsOwned t.origin (expand t)) (λ (t : Slot). AllByRecursion (λ (d : FlatDevice). (m : Net) → Contains d.nets m → KnownNet m) (expand t)) (λ t g. g.all_known) slots own))
      (all_once expand Owned owned_one slots once owned apart)
