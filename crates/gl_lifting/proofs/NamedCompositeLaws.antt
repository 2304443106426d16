-- Side fact: each composite of a lawful history within its limits can be named.
use Rattle.std.proofs.Common.{◌≡◌, ◌≤◌, ◌<◌, ◌∙◌, ℕ, zero, suc, List, [], ◌∷◌, ◌++◌, length, map, None, Some, refl, sym, ap, subst, arith, length-append}
use Rattle.std.specs.Prelude.{Contains, decimal, flat_map, zip}
use Rattle.std.specs.List.{AllByRecursion, AllZip}
use Rattle.gl_match.proofs.Lists.{in_head, in_map, in_flat_map}
use Rattle.gl_text.specs.LogicalLines.{NAME}
use Rattle.gl_text.specs.Cards.{Device as Card, Call}
use Rattle.gl_text.specs.Decks.{Body, dev_at, call_at, Sub, find_sub}
use Rattle.gl_text.specs.Flattening.{Flat, FlatDevice, Bearer, device, net, DEPTH, top_place, inside, bearers, bearer_name, device_name, devices_of, flat_devices}
use Rattle.gl_base.specs.BaseCircuit.{Source, nets_of}
use Rattle.gl_base.specs.Libraries.{Library}
use Rattle.gl_base.specs.Reports.{name_at}
use Rattle.gl_base.specs.RoundReports.{instance_name}
use Rattle.gl_base.specs.Rounds.{cards_of}
use Rattle.gl_lifting.specs.Runs.{run_of}
use Rattle.gl_lifting.specs.Replacement.{Origin, made, Part, Slot, Composite}
use Rattle.gl_lifting.specs.Histories.{History}
use Rattle.gl_lifting.specs.Variants.{Variants, variant_of, variants_of, variant_names}
use Rattle.gl_printed.specs.FlatDecks.{subs_around}
use Rattle.gl_lifting.specs.LiftedDecks.{slot_card, top_name, variant_sub, lifted_deck}
use Rattle.gl_lifting.specs.OutLimits.{limits, out_limit}
use Rattle.gl_lifting.specs.Lifted.{Options}
use Rattle.gl_lifting.specs.Chain.{IsLawfulOf}
use Rattle.gl_lifting.specs.Suited.{HasSuited}
use Rattle.gl_lifting.proofs.Weights.{part_weight}
use Rattle.gl_lifting.proofs.FlatCardLaws.{in_each}
use Rattle.gl_lifting.proofs.StandLaws.{HasSome}
use Rattle.gl_lifting.proofs.ThreeLinkLaws.{cells_told}
use Rattle.gl_lifting.proofs.BelowLaws.{front_short}
use Rattle.gl_lifting.proofs.CountLaws.{card_counts, devices_count}
use Rattle.gl_lifting.proofs.LeafLaws.{leaves, composite_leaves, slot_leaves}
use Rattle.gl_lifting.proofs.ExpandLaws.{composite_sub, Tree}
use Rattle.gl_lifting.proofs.TreeLaws.{TopCall, SlotTree}
use Rattle.gl_lifting.proofs.ChosenTopLaws.{limits_kept, expanded_top}
use Rattle.gl_lifting.proofs.InstanceNameLaws.{fewer_digits, cells_some, ways_below, one_above}
use Rattle.gl_lifting.proofs.LiftedFactLaws as facts

module _ (s : Source) (cards : List Card) (cs : List Composite) (names : List (List ℕ)) (numbers : List ℕ) (subs : List Sub)
    (found : (c : Composite) → Contains cs c → find_sub subs (name_at names (variant_of numbers c.number)) ≡ Some (composite_sub s cards names numbers c)) (some : (c : Composite) → Contains cs c → HasSome c.cell.cards) where
  -- where cards have trees that stand for a device each, parts do
  parts_some : (Q : Body → Part → Type 0) (n : ℕ) → ((b : Body) (p : Part) → Q b p → 1 ≤ leaves subs names numbers n p.origin) → (bs : List Body) (ps : List Part) → AllZip Q bs ps → HasSome bs → 1 ≤ part_weight (leaves subs names numbers n) ps
  parts_some Q n f [] ps h k = absurd k
  parts_some Q n f (b ∷ bs) [] h k = absurd h
  parts_some Q n f (b ∷ bs) (p ∷ ps) h k = omega (arith, f b p h.0)

  card_some : (k n : ℕ) → k ≤ n → (b : Body) (p : Part) → Tree s cards cs k b p → 1 ≤ leaves subs names numbers n p.origin
  card_some zero n le (dev_at line d) p h = let e = ap (leaves subs names numbers n) h.suits.origin_is in omega (arith, e)
  card_some zero n le (call_at line c) p h = absurd h
  card_some (suc k) n le (dev_at line d) p h = let e = ap (leaves subs names numbers n) h.suits.origin_is in omega (arith, e)
  card_some (suc k) zero le (call_at line c) p h = absurd (omega (arith, le))
  card_some (suc k) (suc n) le (call_at line c) p h =
      let t = h.composite in
      let e = ap (leaves subs names numbers (suc n)) h.origin_is ∙ composite_leaves s cards cs names numbers subs found (Tree s cards cs k) n t h.stands h.parts in
      omega (arith, e, parts_some (Tree s cards cs k) n (card_some k n (omega (arith, le))) t.cell.cards t.parts h.parts (some t h.stands))

  -- a composite of the last circuit stands for a device
  pub top_some : (number : ℕ) (nets : List ℕ) → TopCall s cards cs 15 number nets → 1 ≤ leaves subs names numbers 32 (made number)
  top_some number nets g =
      let c = g.composite in
      let e = ap (λ k. leaves subs names numbers 32 (made k)) (sym g.number_is) ∙ composite_leaves s cards cs names numbers subs found (Tree s cards cs 15) 31 c g.stands g.parts in
      omega (arith, e, parts_some (Tree s cards cs 15) 31 (card_some 15 31 (omega arith)) c.cell.cards c.parts g.parts (some c g.stands))

-- a list with a length has a first
first_of : (ds : List FlatDevice) → 1 ≤ length ds → (d : FlatDevice) × Contains ds d
first_of [] le = absurd (omega (arith, le))
first_of (d ∷ ds) le = (d, in_head d ds)

module _ (deck_bytes library_bytes : List ℕ) (o : Options) (flat : Flat) (library : Library) (h : History) (stem : List ℕ) (is : IsLawfulOf deck_bytes library_bytes o flat library h stem) (suited : HasSuited (run_of flat library o.keep).source flat library h)
    (map_bytes report : List ℕ) (within_limits : out_limit limits flat.top (lifted_deck stem flat (run_of flat library o.keep).source h) map_bytes report ≡ None) where
  abbrev s : Source
  s = (run_of flat library o.keep).source

  abbrev cards : List Card
  cards = cards_of flat

  abbrev cs : List Composite
  cs = h.last.composites

  abbrev vs : Variants
  vs = variants_of (cards_of flat) h.last.composites

  abbrev names : List (List ℕ)
  names = variant_names (top_name flat) (variants_of (cards_of flat) h.last.composites).different

  abbrev bodies : List Body
  bodies = map (slot_card stem (cards_of flat) (variant_names (top_name flat) (variants_of (cards_of flat) h.last.composites).different) (variants_of (cards_of flat) h.last.composites).numbers) h.last.slots

  abbrev subs : List Sub
  subs = map (variant_sub s names) (zip names vs.different) ++ subs_around flat.top bodies

  found : (c : Composite) → Contains cs c → find_sub subs (name_at names (variant_of vs.numbers c.number)) ≡ Some (composite_sub s cards names vs.numbers c)
  found = facts.found deck_bytes library_bytes o flat library h stem is suited

  some : (c : Composite) → Contains cs c → HasSome c.cell.cards
  some c at = in_each (λ (x : Composite). HasSome x.cell.cards) cs c (cells_some (run_of flat library o.keep) h (cells_told library_bytes library is.library_is) is.lawful) at

  -- the flat names of the lifted deck are short
  short : AllByRecursion (λ b. length (bearer_name b) ≤ NAME) (flat_map bearers (flat_devices flat.rails subs DEPTH top_place bodies))
  short = subst (λ bs. AllByRecursion (λ b. length (bearer_name b) ≤ NAME) (flat_map bearers (flat_devices flat.rails subs DEPTH top_place bs)))
      (expanded_top (lifted_deck stem flat s h) flat.top (map (variant_sub s names) (zip names vs.different)) bodies refl refl)
      (limits_kept flat.top (lifted_deck stem flat s h) map_bytes report within_limits).names

  -- below a composite at the top there is a device, whose flat name has the composite's
  below : (t : Slot) → Contains h.last.slots t → (k : ℕ) → t.origin ≡ made k → length (instance_name stem k) ≤ NAME
  below t at k e =
      let g : TopCall s cards cs 15 k t.device.nets = subst (λ (x : Origin). SlotTree s cards cs 15 t.device.nets x) e (in_each (λ (x : Slot). SlotTree s cards cs 15 x.device.nets x.origin) h.last.slots t (facts.slots_trees deck_bytes library_bytes o flat library h stem is suited) at) in
      let b = slot_card stem cards names vs.numbers t in
      let many = card_counts flat.rails subs (flat_devices flat.rails subs 31) 31 (devices_count flat.rails subs 31) top_place b ∙ slot_leaves s cards cs names vs.numbers subs found stem 32 t ∙ ap (leaves subs names vs.numbers 32) e in
      let d = first_of (devices_of flat.rails subs (flat_devices flat.rails subs 31) top_place b) (omega (arith, many, top_some s cards cs names vs.numbers subs found some k t.device.nets g)) in
      let there = in_flat_map (devices_of flat.rails subs (flat_devices flat.rails subs 31) top_place) bodies b d.0 (in_map (slot_card stem cards names vs.numbers) h.last.slots t at) d.1 in
      let named = in_each (λ (x : Bearer). length (bearer_name x) ≤ NAME) (flat_map bearers (flat_devices flat.rails subs DEPTH top_place bodies)) (device (device_name d.0)) short (in_flat_map bearers (flat_devices flat.rails subs DEPTH top_place bodies) d.0 (device (device_name d.0)) there (in_head (device (device_name d.0)) (map net d.0.nets))) in
      let way = in_each (λ (x : FlatDevice). (rest : List (List ℕ)) × (x.path ≡ instance_name stem k ∷ rest)) (devices_of flat.rails subs (flat_devices flat.rails subs 31) top_place b) d.0 (ways t k e g) d.1 in
      front_short NAME (instance_name stem k) d.0 way.0 way.1 named
    where
      ways : (t : Slot) (k : ℕ) → t.origin ≡ made k → TopCall s cards cs 15 k t.device.nets → AllByRecursion (λ (x : FlatDevice). (rest : List (List ℕ)) × (x.path ≡ instance_name stem k ∷ rest)) (devices_of flat.rails subs (flat_devices flat.rails subs 31) top_place (slot_card stem cards names vs.numbers t))
      ways t k e g =
          let c = g.composite in
          let called : find_sub subs (name_at names (variant_of vs.numbers k)) ≡ Some (composite_sub s cards names vs.numbers c) = ap (λ n. find_sub subs (name_at names (variant_of vs.numbers n))) (sym g.number_is) ∙ found c g.stands in
          let x : Call = record { name = instance_name stem k; nodes = map (name_at (nets_of cards)) t.device.nets; sub = name_at names (variant_of vs.numbers k) } in
          subst (λ (y : Origin). AllByRecursion (λ (x : FlatDevice). (rest : List (List ℕ)) × (x.path ≡ instance_name stem k ∷ rest)) (devices_of flat.rails subs (flat_devices flat.rails subs 31) top_place (slot_card stem cards names vs.numbers (record { device = t.device; origin = y })))) (sym e)
          (rw called (ways_below flat.rails subs 31 (inside flat.rails top_place x (composite_sub s cards names vs.numbers c)) (composite_sub s cards names vs.numbers c).cards))

  -- each composite can be named
  pub named : (n : ℕ) → 0 < n → n ≤ length cs → length (instance_name stem n) ≤ NAME
  named n above le =
      let r = one_above (run_of flat library o.keep) h (cells_told library_bytes library is.library_is) is.lawful n above le in
      let own = below r.3 r.4 r.0 r.5 in
      let digits = fewer_digits n r.0 r.1 (omega (arith, r.2, suited.few)) in
      omega (arith, own, digits, length-append stem (decimal n), length-append stem (decimal r.0))
