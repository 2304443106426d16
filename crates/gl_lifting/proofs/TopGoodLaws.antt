-- Each device of the flattened lifted deck of a lawful history of bytes stands for an original one.
use Rattle.std.proofs.Common.{◌≡◌, ◌<◌, ◌∙◌, ℕ, List, [], ◌∷◌, ◌++◌, length, map, cond, Bool, true, false, Some, None, refl, sym, ap, ap₂, subst, arith, inl, inr, flat_map}
use Rattle.std.specs.Prelude.{Contains, zip}
use Rattle.std.specs.List.{AllByRecursion}
use Rattle.std.proofs.lemmas.List.{length-map, map-id, get_or-map}
use Rattle.gl_match.proofs.Lists.{in_none, in_cons, in_head, in_tail}
use Rattle.gl_match.specs.Graph.{Device}
use Rattle.gl_text.specs.Cards.{Device as Card}
use Rattle.gl_text.specs.Decks.{Body, Sub, find_sub}
use Rattle.gl_text.specs.Flattening.{Flat, Net, Place, top_place, top_net, is_rail, net_of, inside, devices_of, flat_devices}
use Rattle.gl_printed.proofs.Each.{each_append}
use Rattle.gl_base.specs.BaseCircuit.{nets_of}
use Rattle.gl_base.specs.Libraries.{Library}
use Rattle.gl_base.specs.Reports.{name_at}
use Rattle.gl_base.specs.RoundReports.{instance_name}
use Rattle.gl_base.specs.Rounds.{cards_of}
use Rattle.gl_lifting.specs.Runs.{Run, run_of, cell_nets}
use Rattle.gl_lifting.specs.Replacement.{Origin, base, made, Part, Slot, Composite}
use Rattle.gl_lifting.specs.Histories.{History}
use Rattle.gl_lifting.specs.Variants.{Variants, variant_of, card_at, variants_of, variant_names}
use Rattle.gl_printed.specs.FlatDecks.{subs_around}
use Rattle.gl_lifting.specs.LiftedDecks.{slot_card, top_name, variant_sub}
use Rattle.gl_lifting.specs.NameMaps.{Located, all_located}
use Rattle.gl_lifting.specs.Renaming.{names_of_devices}
use Rattle.gl_lifting.specs.Lifted.{Options}
use Rattle.gl_lifting.specs.Chain.{IsLawfulOf}
use Rattle.gl_lifting.specs.Suited.{HasSuited}
use Rattle.gl_lifting.specs.Meeting.{IsShaped, IsFrom, IsMatched, IsBound}
use Rattle.gl_lifting.specs.Pairing.{net_image}
use Rattle.gl_lifting.proofs.FlatCardLaws.{in_each}
use Rattle.gl_lifting.proofs.ReadBytesLaws.{flat_known}
use Rattle.gl_lifting.proofs.ThreeLinkLaws.{cells_told}
use Rattle.gl_lifting.proofs.MeetLaws.{map_twice}
use Rattle.gl_lifting.proofs.PlaceLaws.{beside_ports}
use Rattle.gl_lifting.proofs.MatchedLaws.{SlotFrom, IsMatchedWell, matched_well}
use Rattle.gl_lifting.proofs.MatchedBackLaws.{original_nodes}
use Rattle.gl_lifting.proofs.ShapedLaws.{one_letter, run_shaped}
use Rattle.gl_lifting.proofs.SeparateRoundLaws.{IsSeparated, history_separated}
use Rattle.gl_lifting.proofs.OwnNetLaws.{PortsOn}
use Rattle.gl_lifting.proofs.LocatedLaws.{part_way, top_way}
use Rattle.gl_lifting.proofs.NewNameLaws as new
use Rattle.gl_lifting.proofs.ExpandLaws.{composite_sub}
use Rattle.gl_lifting.proofs.TreeLaws.{TopCall, SlotTree}
use Rattle.gl_lifting.proofs.WalkLaws.{IsGood, not_port, walk}
use Rattle.gl_lifting.proofs.LiftedFactLaws as facts

-- names at the top are nets of the top
top_names : (rails names : List (List ℕ)) → map (net_of rails top_place) names ≡ map top_net names
top_names rails [] = refl
top_names rails (n ∷ ns) = ap₂ (λ (x : Net) (xs : List Net). x ∷ xs) (by (is_rail rails n)) (top_names rails ns) where
  by : (b : Bool) → cond b (top_net n) (record { path = []; name = n }) ≡ top_net n
  by true = refl
  by false = refl

-- numbers whose nets are those of the top
same_nets : (new : ℕ → Net) (olds : List (List ℕ)) (is : List ℕ) → ((i : ℕ) → Contains is i → new i ≡ top_net (name_at olds i)) → map new is ≡ map top_net (map (name_at olds) is)
same_nets new olds [] f = refl
same_nets new olds (i ∷ is) f = ap₂ (λ (x : Net) (xs : List Net). x ∷ xs) (f i (in_head i is)) (same_nets new olds is (λ j at. f j (in_tail i is j at)))

module _ (deck_bytes library_bytes : List ℕ) (o : Options) (flat : Flat) (library : Library) (h : History) (stem : List ℕ) (is : IsLawfulOf deck_bytes library_bytes o flat library h stem) (suited : HasSuited (run_of flat library o.keep).source flat library h) where
  abbrev run : Run
  run = run_of flat library o.keep

  abbrev cards : List Card
  cards = cards_of flat

  abbrev cs : List Composite
  cs = h.last.composites

  abbrev vs : Variants
  vs = variants_of (cards_of flat) h.last.composites

  abbrev names : List (List ℕ)
  names = variant_names (top_name flat) (variants_of (cards_of flat) h.last.composites).different

  abbrev bodies : List Body
  bodies = map (slot_card stem (cards_of flat) (variant_names (top_name flat) (variants_of (cards_of flat) h.last.composites).different) (variants_of (cards_of flat) h.last.composites).numbers) h.last.slots

  abbrev subs : List Sub
  subs = map (variant_sub (run_of flat library o.keep).source names) (zip names vs.different) ++ subs_around flat.top bodies

  abbrev all : List Located
  all = all_located stem h

  shaped : IsShaped run
  shaped = run_shaped flat library o.keep (flat_known deck_bytes library_bytes o flat library h stem is) (facts.library_read deck_bytes library_bytes o flat library h stem is suited)

  matched : IsMatchedWell run h.last
  matched = matched_well run h shaped is.lawful

  pub sep : IsSeparated run h.last
  sep = history_separated run h shaped (cells_told library_bytes library is.library_is) is.lawful

  -- new nets, and new names of devices
  abbrev pub nets : ℕ → Net
  nets = new.new_net run h stem is.lawful sep

  abbrev pub devices : List (List ℕ)
  devices = new.new_devices run h stem is.lawful sep (names_of_devices flat)

  long : length (names_of_devices flat) ≡ length run.source.devices
  long = length-map (cards_of flat) (λ (c : Card). c.name)

  bound : (c : Composite) → Contains cs c → c.key.binding ≡ map (net_image c) c.cell.head.ports
  bound c ac = in_each IsBound cs c matched.bound ac (in_each (λ (x : Composite). PortsOn x.cell) cs c sep.ports ac)

  found : (c : Composite) → Contains cs c → find_sub subs (name_at names (variant_of vs.numbers c.number)) ≡ Some (composite_sub run.source cards names vs.numbers c)
  found = facts.found deck_bytes library_bytes o flat library h stem is suited

  others : (l : Located) → Contains all l → (name : List ℕ) → Contains (cell_nets l.composite.cell) name → (Contains l.composite.cell.head.ports name → ⊥) → net_of run.source.rails (record { path = l.way; ports = [] }) name ≡ nets (net_image l.composite name)
  others = new.other_nets run h stem is.lawful sep

  -- an original device of the last circuit
  base_good : (t : Slot) → Contains h.last.slots t → (dev : ℕ) → dev < length cards → t.origin ≡ base dev → IsGood run cards devices nets (record { path = []; card = card_at cards dev; nets = map (net_of flat.rails top_place) (card_at cards dev).nodes })
  base_good t at dev lt e =
      let from : IsFrom run cs (base dev) t.device = subst (λ (x : Origin). IsFrom run cs x t.device) e (in_each (SlotFrom run cs) h.last.slots t matched.slots at).0 in
      let none : Card = record { name = []; nodes = []; model = None; tail = [] } in
      record {
        dev = dev;
        lies = lt;
        named = sym (new.slot_device_stays run h stem is.lawful sep (names_of_devices flat) long t at dev lt e ∙ get_or-map (λ (c : Card). c.name) cards dev none [] lt);
        netted = top_names flat.rails (card_at cards dev).nodes ∙ ap (map top_net) (sym (original_nodes flat library o.keep dev lt) ∙ ap (λ (d : Device). map (name_at (nets_of cards)) d.nets) (sym from))
            ∙ sym (same_nets nets (nets_of cards) t.device.nets (λ i on. new.slot_stays run h stem is.lawful sep t at i on)) ∙ ap (λ (d : Device). map nets d.nets) from;
        model = refl;
        tail = refl;
        letter = refl;
      }

  -- a composite of the last circuit
  made_good : (t : Slot) → Contains h.last.slots t → (k : ℕ) → t.origin ≡ made k → TopCall run.source cards cs 15 k t.device.nets
      → AllByRecursion (IsGood run cards devices nets) (devices_of flat.rails subs (flat_devices flat.rails subs 31) top_place (slot_card stem cards names vs.numbers (record { device = t.device; origin = made k })))
  made_good t at k e g =
      let c = g.composite in
      let one = facts.one_number deck_bytes library_bytes o flat library h stem is suited in
      let from : IsFrom run cs (made k) t.device = subst (λ (x : Origin). IsFrom run cs x t.device) e (in_each (SlotFrom run cs) h.last.slots t matched.slots at).0 in
      let same : from.0 ≡ c = one from.0 c from.1 g.stands (from.2 ∙ sym g.number_is) in
      let nodes = map (name_at (nets_of cards)) t.device.nets in
      let binding : t.device.nets ≡ map (net_image c) c.cell.head.ports = ap (λ (d : Device). d.nets) from.3 ∙ ap (λ (x : Composite). x.key.binding) same ∙ bound c g.stands in
      let w = top_way run h stem is.lawful t at c g.stands (e ∙ ap made (sym g.number_is)) in
      let on : instance_name stem k ∷ [] ≡ w.0.way = ap (λ n. instance_name stem n ∷ []) (sym g.number_is) ∙ sym w.3 in
      let ports : map (net_of flat.rails top_place) nodes ≡ map (λ name. nets (net_image c name)) c.cell.head.ports =
      top_names flat.rails nodes ∙ sym (same_nets nets (nets_of cards) t.device.nets (λ i on. new.slot_stays run h stem is.lawful sep t at i on)) ∙ ap (map nets) binding ∙ sym (map_twice nets (net_image c) c.cell.head.ports) in
      let p : Place = record { path = instance_name stem k ∷ []; ports = zip c.cell.head.ports (map (net_of flat.rails top_place) nodes) } in
      let many : length c.cell.head.ports ≡ length (map (net_of flat.rails top_place) nodes) = sym g.ports_are ∙ sym (length-map nodes (net_of flat.rails top_place) ∙ length-map t.device.nets (name_at (nets_of cards))) in
      let called : find_sub subs (name_at names (variant_of vs.numbers k)) ≡ Some (composite_sub run.source cards names vs.numbers c) = ap (λ n. find_sub subs (name_at names (variant_of vs.numbers n))) (sym g.number_is) ∙ found c g.stands in
      rw called (walk run cards cs names vs.numbers subs flat.rails devices nets all found one
      (λ d ad. in_each (λ (x : Composite). AllByRecursion (λ (z : Body × Part). IsMatched run cs x z.0 z.1) (zip x.cell.cards x.parts)) cs d matched.composites ad) bound
      (λ d x y. one_letter run.source (card_at cards y.suits.dev) d y.suits.type_is)
      (λ l al b q n there f d ad nf. part_way run h stem is.lawful l al b q n there (right_of l.composite.cell.cards l.composite.parts b q there) f d ad nf)
      (λ l al line d q dev lt there f. new.device_new run h stem is.lawful sep (names_of_devices flat) long l al line d q dev lt there f) others
      15 31 (omega arith) w.0 w.1 c g.stands w.2 p on (record {
        ports = beside_ports (λ (n : Net). n) (λ name. nets (net_image c name)) c.cell.head.ports (map (net_of flat.rails top_place) nodes) (map-id (map (net_of flat.rails top_place) nodes) ∙ ports);
        others = λ name inner none. ap (λ q. net_of flat.rails (record { path = q; ports = [] }) name) on
            ∙ others w.0 w.1 name (subst (λ (y : Composite). Contains (cell_nets y.cell) name) (sym w.2) inner) (subst (λ (y : Composite). Contains y.cell.head.ports name → ⊥) (sym w.2) (not_port c.cell.head.ports (map (net_of flat.rails top_place) nodes) name many none))
            ∙ ap (λ (y : Composite). nets (net_image y name)) w.2;
      }) g.parts)
    where
      right_of : (bs : List Body) (ps : List Part) (b : Body) (q : Part) → Contains (zip bs ps) (b, q) → Contains ps q
      right_of [] ps b q k = absurd (in_none (b, q) k)
      right_of (x ∷ bs) [] b q k = absurd (in_none (b, q) k)
      right_of (x ∷ bs) (y ∷ ps) b q k = elim (in_cons (x, y) (zip bs ps) (b, q) k) [
        | inl first ↦ subst (λ (z : Body × Part). Contains (y ∷ ps) z.1) first (in_head y ps)
        | inr later ↦ in_tail y ps q (right_of bs ps b q later)
      ]

  -- each device of the last circuit
  slot_good : (t : Slot) → Contains h.last.slots t → AllByRecursion (IsGood run cards devices nets) (devices_of flat.rails subs (flat_devices flat.rails subs 31) top_place (slot_card stem cards names vs.numbers t))
  slot_good t at = by t.origin refl (in_each (λ (x : Slot). SlotTree run.source cards cs 15 x.device.nets x.origin) h.last.slots t (facts.slots_trees deck_bytes library_bytes o flat library h stem is suited) at) where
    by : (x : Origin) → t.origin ≡ x → SlotTree run.source cards cs 15 t.device.nets x → AllByRecursion (IsGood run cards devices nets) (devices_of flat.rails subs (flat_devices flat.rails subs 31) top_place (slot_card stem cards names vs.numbers (record { device = t.device; origin = x })))
    by (base dev) e g = (base_good t at dev g e, tt)
    by (made k) e g = made_good t at k e g

  -- all of them
  pub all_good : AllByRecursion (IsGood run cards devices nets) (flat_devices flat.rails subs 32 top_place bodies)
  all_good = go h.last.slots (λ t at. at) where
    go : (ts : List Slot) → ((t : Slot) → Contains ts t → Contains h.last.slots t) → AllByRecursion (IsGood run cards devices nets) (flat_map (devices_of flat.rails subs (flat_devices flat.rails subs 31) top_place) (map (slot_card stem cards names vs.numbers) ts))
    go [] inside = tt
    go (t ∷ ts) inside = each_append (IsGood run cards devices nets) (devices_of flat.rails subs (flat_devices flat.rails subs 31) top_place (slot_card stem cards names vs.numbers t)) (flat_map (devices_of flat.rails subs (flat_devices flat.rails subs 31) top_place) (map (slot_card stem cards names vs.numbers) ts))
        (slot_good t (inside t (in_head t ts))) (go ts (λ x at. inside x (in_tail t ts x at)))
