-- The walk through the flattened lifted deck: each device stands for an original one, under its new name, on nets under their new names.
use Rattle.std.proofs.Common.{◌≡◌, ◌<◌, ◌≤◌, ◌∙◌, ℕ, zero, suc, List, [], ◌∷◌, ◌++◌, length, map, cond, Bool, true, false, Some, None, refl, sym, ap, subst, arith, inl, inr, flat_map}
use Rattle.std.specs.Prelude.{Contains, find, zip}
use Rattle.std.specs.Option.{option_map}
use Rattle.std.specs.List.{AllByRecursion, AllZip}
use Rattle.std.proofs.lemmas.List.{length-map, map-id}
use Rattle.gl_match.proofs.Lists.{in_none, in_cons, in_head, in_tail}
use Rattle.gl_match.specs.Graph.{Device, device_at}
use Rattle.gl_text.specs.LogicalLines.{same_text}
use Rattle.gl_text.specs.Cards.{Device as Card, Call, first_byte}
use Rattle.gl_text.specs.Decks.{Body, dev_at, call_at, Sub, find_sub, body_name}
use Rattle.gl_text.specs.Flattening.{Net, FlatDevice, Place, actual, net_of, device_name, inside, devices_of, flat_devices}
use Rattle.gl_printed.proofs.Each.{each_append}
use Rattle.gl_base.proofs.TextLaws.{itself}
use Rattle.gl_lifting.proofs.EachLaws.{not_both}
use Rattle.gl_base.specs.Reports.{name_at}
use Rattle.gl_lifting.specs.Runs.{Run, cell_nets, first_circuit}
use Rattle.gl_lifting.specs.Replacement.{Origin, base, made, Part, Composite}
use Rattle.gl_lifting.specs.Variants.{variant_of, card_at}
use Rattle.gl_lifting.specs.LiftedDecks.{nodes_back}
use Rattle.gl_lifting.specs.NameMaps.{Located}
use Rattle.gl_lifting.specs.Pairing.{net_image, IsMet}
use Rattle.gl_lifting.specs.Meeting.{IsFrom, IsMatched}
use Rattle.gl_lifting.proofs.FlatCardLaws.{in_each}
use Rattle.gl_lifting.proofs.MeetLaws.{map_twice}
use Rattle.gl_lifting.proofs.PlaceLaws.{nodes_are, inside_ports}
use Rattle.gl_lifting.proofs.BelowLaws.{named_by, name_is}
use Rattle.gl_lifting.proofs.ExpandLaws.{part_card, composite_cards, composite_sub, Leaf, Calls, TreeAt, Tree, call_nodes}

-- a flat device stands for the original device of a number: it has its new name, model and tail, its nets are the new nets of the original's, and its letter is the original's
pub record IsGood (run : Run) (cards : List Card) (devices : List (List ℕ)) (new : ℕ → Net) (d : FlatDevice) : Type 0 where
  pub dev : ℕ
  pub lies : dev < length cards
  pub named : device_name d ≡ name_at devices dev
  pub netted : d.nets ≡ map new (device_at (first_circuit run).devices dev).nets
  pub model : d.card.model ≡ (card_at cards dev).model
  pub tail : d.card.tail ≡ (card_at cards dev).tail
  pub letter : first_byte (device_name d) ≡ first_byte (card_at cards dev).name

-- the first byte of a flat name is that of the card's
letter_stays : (d : FlatDevice) → first_byte (device_name d) ≡ first_byte d.card.name
letter_stays d = ap first_byte (name_is d) ∙ go d.path where
  go : (way : List (List ℕ)) → first_byte (named_by way d.card.name) ≡ first_byte d.card.name
  go [] = refl
  go (x ∷ way) = refl

-- a flat name is told by the way and the card's name
same_name : (d e : FlatDevice) → d.path ≡ e.path → d.card.name ≡ e.card.name → device_name d ≡ device_name e
same_name d e path name = name_is d ∙ ap (λ w. named_by w d.card.name) path ∙ ap (named_by e.path) name ∙ sym (name_is e)

-- no port has a name that has no actual net
pub not_port : (ports : List (List ℕ)) (nets : List Net) (name : List ℕ) → length ports ≡ length nets → actual (zip ports nets) name ≡ None → Contains ports name → ⊥
not_port [] nets name e f at = in_none name at
not_port (p ∷ ps) [] name e f at = absurd (omega (arith, e))
not_port (p ∷ ps) (n ∷ ns) name e f at = by (same_text p name) refl f (not_port ps ns name (omega (arith, e))) where
  by : (b : Bool) → same_text p name ≡ b → option_map (λ (q : List ℕ × Net). q.1) (cond b (Some (p, n)) (find (λ (q : List ℕ × Net). same_text q.0 name) (zip ps ns))) ≡ None → (actual (zip ps ns) name ≡ None → Contains ps name → ⊥) → ⊥
  by true on g later = absurd cc
  by false off g later = elim (in_cons p ps name at) [
    | inl same ↦ not_both (same_text p name) (ap (same_text p) (sym same) ∙ itself p) off
    | inr behind ↦ later g behind
  ]

module _ (run : Run) (cards : List Card) (cs : List Composite) (names : List (List ℕ)) (numbers : List ℕ) (subs : List Sub) (rails : List (List ℕ)) (devices : List (List ℕ)) (new : ℕ → Net) (all : List Located)
    (found : (c : Composite) → Contains cs c → find_sub subs (name_at names (variant_of numbers c.number)) ≡ Some (composite_sub run.source cards names numbers c))
    (one_number : (c d : Composite) → Contains cs c → Contains cs d → c.number ≡ d.number → c ≡ d)
    (matched : (c : Composite) → Contains cs c → AllByRecursion (λ (z : Body × Part). IsMatched run cs c z.0 z.1) (zip c.cell.cards c.parts))
    (bound : (c : Composite) → Contains cs c → c.key.binding ≡ map (net_image c) c.cell.head.ports)
    (letters : (d : Card) (p : Part) (h : Leaf run.source cards d p) → first_byte (card_at cards h.suits.dev).name ≡ first_byte d.name)
    (part_way : (l : Located) → Contains all l → (b : Body) (p : Part) (k : ℕ) → Contains (zip l.composite.cell.cards l.composite.parts) (b, p) → p.origin ≡ made k → (c : Composite) → Contains cs c → c.number ≡ k → (m : Located) × Contains all m × (m.composite ≡ c) × (m.way ≡ l.way ++ body_name b ∷ []))
    (device_new : (l : Located) → Contains all l → (line : ℕ) (d : Card) (p : Part) (dev : ℕ) → dev < length cards → Contains (zip l.composite.cell.cards l.composite.parts) (dev_at line d, p) → p.origin ≡ base dev → name_at devices dev ≡ device_name (record { path = l.way; card = d; nets = [] }))
    (others : (l : Located) → Contains all l → (name : List ℕ) → Contains (cell_nets l.composite.cell) name → (Contains l.composite.cell.head.ports name → ⊥) → net_of rails (record { path = l.way; ports = [] }) name ≡ new (net_image l.composite name)) where
  -- the nets of a place are the new nets of their images
  abbrev pub Met : Place → Composite → Type 0
  Met place c = IsMet (λ (n : Net). n) (λ name. new (net_image c name)) rails place (cell_nets c.cell)

  abbrev Good : FlatDevice → Type 0
  Good d = IsGood run cards devices new d

  -- one card at a place where its composite is met
  card_good : (f : Place → List Body → List FlatDevice) (l : Located) → Contains all l → Contains cs l.composite → (place : Place) → place.path ≡ l.way → Met place l.composite → (Inner : Call → Part → Type 0)
      → ((line : ℕ) (c : Call) (x : Part) → Contains (zip l.composite.cell.cards l.composite.parts) (call_at line c, x) → Inner c x → AllByRecursion Good (devices_of rails subs f place (part_card run.source cards names numbers (call_at line c, x))))
      → (b : Body) (x : Part) → Contains (zip l.composite.cell.cards l.composite.parts) (b, x) → TreeAt run.source cards Inner b x → AllByRecursion Good (devices_of rails subs f place (part_card run.source cards names numbers (b, x)))
  card_good f l at ac place path met Inner calls (call_at line c) x there h = calls line c x there h
  card_good f l at ac place path met Inner calls (dev_at line d) x there h =
      let m = in_each (λ (z : Body × Part). IsMatched run cs l.composite z.0 z.1) (zip l.composite.cell.cards l.composite.parts) (dev_at line d, x) (matched l.composite ac) there in
      let dev = h.suits.dev in
      let from : IsFrom run cs (base dev) m.device = subst (λ (o : Origin). IsFrom run cs o m.device) h.suits.origin_is m.from in
      let fd : FlatDevice = record { path = place.path; card = record { name = d.name; nodes = nodes_back run.source (dev_at line d) x.turn; model = (card_at cards dev).model; tail = (card_at cards dev).tail }; nets = map (net_of rails place) (nodes_back run.source (dev_at line d) x.turn) } in
      let good : Good fd = record {
        dev = dev;
        lies = h.suits.within;
        named = same_name fd (record { path = l.way; card = d; nets = [] }) path refl ∙ sym (device_new l at line d x dev h.suits.within there h.suits.origin_is);
        netted = sym (map-id fd.nets) ∙ nodes_are (λ (n : Net). n) (λ name. new (net_image l.composite name)) rails place (cell_nets l.composite.cell) met (nodes_back run.source (dev_at line d) x.turn) m.inside
            ∙ map_twice new (net_image l.composite) (nodes_back run.source (dev_at line d) x.turn) ∙ ap (map new) m.nets ∙ ap (λ (y : Device). map new y.nets) from;
        model = refl;
        tail = refl;
        letter = letter_stays fd ∙ sym (letters d x h);
      } in
      subst (λ (o : Origin). AllByRecursion Good (devices_of rails subs f place (part_card run.source cards names numbers (dev_at line d, record { turn = x.turn; origin = o })))) (sym h.suits.origin_is) (good, tt)

  -- an X card's composite is met inside
  call_met : (l : Located) → Contains all l → Contains cs l.composite → (place : Place) → place.path ≡ l.way → Met place l.composite → (line : ℕ) (c : Call) (x : Part) → Contains (zip l.composite.cell.cards l.composite.parts) (call_at line c, x) → (Inner : Body → Part → Type 0) (h : Calls cs Inner c x)
      → (m : Located) × Contains all m × (m.composite ≡ h.composite) × (place.path ++ c.name ∷ [] ≡ m.way)
      × Met (record { path = place.path ++ c.name ∷ []; ports = zip h.composite.cell.head.ports (map (net_of rails place) (nodes_back run.source (call_at line c) x.turn)) }) h.composite
  call_met l at ac place path met line c x there Inner h =
      let t = h.composite in
      let nodes = nodes_back run.source (call_at line c) x.turn in
      let m = in_each (λ (z : Body × Part). IsMatched run cs l.composite z.0 z.1) (zip l.composite.cell.cards l.composite.parts) (call_at line c, x) (matched l.composite ac) there in
      let from : IsFrom run cs (made t.number) m.device = subst (λ (o : Origin). IsFrom run cs o m.device) h.origin_is m.from in
      let same : from.0 ≡ t = one_number from.0 t from.1 h.stands from.2 in
      let binding : m.device.nets ≡ t.key.binding = ap (λ (y : Device). y.nets) from.3 ∙ ap (λ (y : Composite). y.key.binding) same in
      let images : map (net_image l.composite) nodes ≡ map (net_image t) t.cell.head.ports = m.nets ∙ binding ∙ bound t h.stands in
      let news : map (λ name. new (net_image l.composite name)) nodes ≡ map (λ name. new (net_image t name)) t.cell.head.ports =
      map_twice new (net_image l.composite) nodes ∙ ap (map new) images ∙ sym (map_twice new (net_image t) t.cell.head.ports) in
      let w = part_way l at (call_at line c) x t.number there h.origin_is t h.stands refl in
      let on : place.path ++ c.name ∷ [] ≡ w.0.way = ap (λ p. p ++ c.name ∷ []) path ∙ sym w.3 in
      let call : Call = record { name = c.name; nodes = nodes; sub = name_at names (variant_of numbers t.number) } in
      let long : length t.cell.head.ports ≡ length (map (net_of rails place) nodes) = h.ports_are ∙ sym (length-map nodes (net_of rails place) ∙ ap length (call_nodes run.source line x.turn c h.turn_below)) in (
        w.0,
        w.1,
        w.2,
        on,
        record {
          ports = inside_ports (λ (n : Net). n) (λ name. new (net_image l.composite name)) (λ name. new (net_image t name)) rails place (cell_nets l.composite.cell) call (composite_sub run.source cards names numbers t) met m.inside news;
          others = λ name inner none.
              ap (λ p. net_of rails (record { path = p; ports = [] }) name) on
              ∙ others w.0 w.1 name (subst (λ (y : Composite). Contains (cell_nets y.cell) name) (sym w.2) inner) (subst (λ (y : Composite). Contains y.cell.head.ports name → ⊥) (sym w.2) (not_port t.cell.head.ports (map (net_of rails place) nodes) name long none))
              ∙ ap (λ (y : Composite). new (net_image y name)) w.2;
        },
      )

  -- all cards
  all_good : (f : Place → List Body → List FlatDevice) (l : Located) → Contains all l → Contains cs l.composite → (place : Place) → place.path ≡ l.way → Met place l.composite → (Inner : Call → Part → Type 0)
      → ((line : ℕ) (c : Call) (x : Part) → Contains (zip l.composite.cell.cards l.composite.parts) (call_at line c, x) → Inner c x → AllByRecursion Good (devices_of rails subs f place (part_card run.source cards names numbers (call_at line c, x))))
      → (bs : List Body) (xs : List Part) → ((z : Body × Part) → Contains (zip bs xs) z → Contains (zip l.composite.cell.cards l.composite.parts) z) → AllZip (TreeAt run.source cards Inner) bs xs → AllByRecursion Good (flat_map (devices_of rails subs f place) (map (part_card run.source cards names numbers) (zip bs xs)))
  all_good f l at ac place path met Inner calls [] xs inside h = tt
  all_good f l at ac place path met Inner calls (b ∷ bs) [] inside h = tt
  all_good f l at ac place path met Inner calls (b ∷ bs) (x ∷ xs) inside h =
      each_append Good (devices_of rails subs f place (part_card run.source cards names numbers (b, x))) (flat_map (devices_of rails subs f place) (map (part_card run.source cards names numbers) (zip bs xs)))
      (card_good f l at ac place path met Inner calls b x (inside (b, x) (in_head (b, x) (zip bs xs))) h.0)
      (all_good f l at ac place path met Inner calls bs xs (λ z k. inside z (in_tail (b, x) (zip bs xs) z k)) h.1)

  -- a composite at a place where it is met, which is a tree of no more calls than are followed
  pub walk : (k n : ℕ) → k ≤ n → (l : Located) → Contains all l → (c : Composite) → Contains cs c → l.composite ≡ c → (place : Place) → place.path ≡ l.way → Met place c → AllZip (Tree run.source cards cs k) c.cell.cards c.parts
      → AllByRecursion Good (flat_devices rails subs n place (composite_cards run.source cards names numbers c))
  walk k n le l at c ac same place path met h =
      subst (λ (y : Composite). AllByRecursion Good (flat_devices rails subs n place (composite_cards run.source cards names numbers y))) same
      (go k n le l at (subst (λ (y : Composite). Contains cs y) (sym same) ac) place path (subst (Met place) (sym same) met) l.composite.cell.cards l.composite.parts (λ z q. q) (subst (λ (y : Composite). AllZip (Tree run.source cards cs k) y.cell.cards y.parts) (sym same) h))
    where
      go : (k n : ℕ) → k ≤ n → (l : Located) → Contains all l → Contains cs l.composite → (place : Place) → place.path ≡ l.way → Met place l.composite → (bs : List Body) (xs : List Part) → ((z : Body × Part) → Contains (zip bs xs) z → Contains (zip l.composite.cell.cards l.composite.parts) z)
          → AllZip (Tree run.source cards cs k) bs xs → AllByRecursion Good (flat_devices rails subs n place (map (part_card run.source cards names numbers) (zip bs xs)))
      go zero zero le l at ac place path met bs xs inside h = all_good (λ p c. []) l at ac place path met (λ c x. ⊥) (λ line c x there e. absurd e) bs xs inside h
      go zero (suc n) le l at ac place path met bs xs inside h = all_good (flat_devices rails subs n) l at ac place path met (λ c x. ⊥) (λ line c x there e. absurd e) bs xs inside h
      go (suc k) zero le l at ac place path met bs xs inside h = absurd (omega (arith, le))
      go (suc k) (suc n) le l at ac place path met bs xs inside h = all_good (flat_devices rails subs n) l at ac place path met (Calls cs (Tree run.source cards cs k)) (λ line c x there g.
          let t = g.composite in
          let m = call_met l at ac place path met line c x there (Tree run.source cards cs k) g in
          let p : Place = record { path = place.path ++ c.name ∷ []; ports = zip t.cell.head.ports (map (net_of rails place) (nodes_back run.source (call_at line c) x.turn)) } in
          let mc : Contains cs m.0.composite = subst (λ (y : Composite). Contains cs y) (sym m.2) g.stands in
          let deep = go k n (omega (arith, le)) m.0 m.1 mc p m.3 (subst (Met p) (sym m.2) m.4) m.0.composite.cell.cards m.0.composite.parts (λ z q. q) (subst (λ (y : Composite). AllZip (Tree run.source cards cs k) y.cell.cards y.parts) (sym m.2) g.parts) in
          let own = subst (λ (y : Composite). AllByRecursion Good (flat_devices rails subs n p (composite_cards run.source cards names numbers y))) m.2 deep in
          subst (λ (o : Origin). AllByRecursion Good (devices_of rails subs (flat_devices rails subs n) place (part_card run.source cards names numbers (call_at line c, record { turn = x.turn; origin = o })))) (sym g.origin_is) (rw (found t g.stands) own)) bs xs inside h
