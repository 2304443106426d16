-- Link 5 of a lawful history of bytes, within limits or not.
use Rattle.std.proofs.Common.{◌≡◌, ◌<◌, ◌∙◌, ℕ, List, [], ◌∷◌, ◌++◌, length, get_or, map, ltb, true, false, Option, None, codes, refl, sym, ap, subst, flat_map, arith, inl, inr}
use Rattle.std.specs.Prelude.{Contains, zip}
use Rattle.std.specs.List.{AllByRecursion}
use Rattle.std.proofs.lemmas.List.{length-map, get_or-map}
use Rattle.std.proofs.lemmas.List.Elements.{Contains-get_or, Contains-append_left, Contains-append_right, Contains-append_cases}
use Rattle.gl_match.proofs.Lists.{Once, in_head, in_cons, in_map, from_map, in_flat_map, from_flat_map}
use Rattle.gl_match.proofs.AtLaws.{get_any}
use Rattle.gl_match.specs.Graph.{Device, device_at}
use Rattle.gl_text.specs.LogicalLines.{same_text}
use Rattle.gl_text.specs.Cards.{Device as Card, first_byte}
use Rattle.gl_text.specs.Decks.{Deck, has_twice, body_name}
use Rattle.gl_text.specs.Flattening.{DEPTH, Flat, FlatDevice, Net, net, device, top_net, top_place, top_ports, bearers, bearer_name, net_name, device_name, flat_card, flat_devices, first_clash}
use Rattle.gl_base.specs.BaseCircuit.{nets_of, net_number, device_of}
use Rattle.gl_base.specs.Libraries.{Library}
use Rattle.gl_base.specs.Reports.{name_at}
use Rattle.gl_base.specs.Rounds.{cards_of}
use Rattle.gl_base.specs.Rails.{run_rails}
use Rattle.gl_base.proofs.OnceLaws as onces
use Rattle.gl_base.proofs.TextLaws.{exact, itself, each_once, names_were, once_from, never_twice, node_is_net}
use Rattle.gl_lifting.specs.Runs.{Run, run_of, first_circuit}
use Rattle.gl_lifting.specs.Replacement.{Composite}
use Rattle.gl_lifting.specs.Histories.{History}
use Rattle.gl_lifting.specs.Variants.{card_at, variants_of, variant_names}
use Rattle.gl_lifting.specs.LiftedDecks.{slot_card, top_name, lifted_deck}
use Rattle.gl_lifting.specs.NameMaps.{NameMap, map_of}
use Rattle.gl_lifting.specs.OutLimits.{lifted_flat}
use Rattle.gl_lifting.specs.Renaming.{old_name, new_names, names_of_devices}
use Rattle.gl_lifting.specs.Lifted.{Options}
use Rattle.gl_lifting.specs.Chain.{IsLawfulOf, RenamedIsOriginal}
use Rattle.gl_lifting.specs.Suited.{HasSuited}
use Rattle.gl_lifting.specs.Pairing.{StandsFor, ArePaired, AreAmong}
use Rattle.gl_lifting.specs.Counting.{HasNewNames, new_card, HasNewCards}
use Rattle.gl_lifting.proofs.FlatCardLaws.{in_each, cards_fine, nets_parts}
use Rattle.gl_lifting.proofs.TurnedNameLaws.{each_in}
use Rattle.gl_lifting.proofs.ReadBytesLaws.{flat_known}
use Rattle.gl_lifting.proofs.MapLaws.{device_names_are, net_names_are, nets_apart, devices_apart}
use Rattle.gl_lifting.proofs.FlatNameLaws.{names_are, clashless_differ, flat_names_differ}
use Rattle.gl_lifting.proofs.PairedLaws.{paired_back}
use Rattle.gl_lifting.proofs.LineBackLaws.{net_back}
use Rattle.gl_lifting.proofs.MatchedBackLaws.{original_nodes}
use Rattle.gl_lifting.proofs.BesideLaws.{zip_get, map_both, map_again}
use Rattle.gl_lifting.proofs.ClashLaws.{Agree, agree_by}
use Rattle.gl_lifting.proofs.CellFactLaws.{tops_agree, cards_named}
use Rattle.gl_lifting.proofs.LocatedLaws.{one_of_all}
use Rattle.gl_lifting.proofs.WayOneLaws.{some_way, one_way}
use Rattle.gl_lifting.proofs.NetTableLaws.{name_under}
use Rattle.gl_lifting.proofs.NewNameLaws as new
use Rattle.gl_lifting.proofs.WalkLaws.{IsGood}
use Rattle.gl_lifting.proofs.TopGoodLaws as good
use Rattle.gl_lifting.proofs.EachStandsLaws.{named_new, stands_for, net_stands, news_once}
use Rattle.gl_lifting.proofs.LiftedFactLaws as facts
use Rattle.gl_lifting.proofs.FourthLinkLaws.{expanded, clashless, as_many}

module _ (deck_bytes library_bytes : List ℕ) (o : Options) (flat : Flat) (library : Library) (h : History) (stem : List ℕ) (is : IsLawfulOf deck_bytes library_bytes o flat library h stem) (suited : HasSuited (run_of flat library o.keep).source flat library h) where
  abbrev run : Run
  run = run_of flat library o.keep

  abbrev cards : List Card
  cards = cards_of flat

  abbrev olds : List (List ℕ)
  olds = nets_of (cards_of flat)

  abbrev deck : Deck
  deck = lifted_deck stem flat (run_of flat library o.keep).source h

  abbrev f : Flat
  f = lifted_flat flat.top (lifted_deck stem flat (run_of flat library o.keep).source h)

  abbrev m : NameMap
  m = map_of stem flat (run_of flat library o.keep).source h

  abbrev new_net : ℕ → Net
  new_net = good.nets deck_bytes library_bytes o flat library h stem is suited

  -- the flat devices are those of the last circuit's cards
  flat_is : f.devices ≡ flat_devices flat.rails deck.subs DEPTH top_place (map (slot_card stem (cards_of flat) (variant_names (top_name flat) (variants_of (cards_of flat) h.last.composites).different) (variants_of (cards_of flat) h.last.composites).numbers) h.last.slots)
  flat_is = ap (λ bs. flat_devices flat.rails deck.subs DEPTH top_place bs) (expanded deck_bytes library_bytes o flat library h stem is suited)

  all_good : AllByRecursion (IsGood run cards (new_names m.devices) new_net) f.devices
  all_good = subst (λ (ds : List FlatDevice). AllByRecursion (IsGood run cards (new_names m.devices) new_net) ds) (sym flat_is) (good.all_good deck_bytes library_bytes o flat library h stem is suited)

  -- no names clash, so the devices' differ
  free : first_clash (map (λ n. net (top_net n)) (codes "0" ∷ flat.rails ++ top_ports flat.top)) (flat_map bearers f.devices) ≡ None
  free = subst (λ (ds : List FlatDevice). first_clash (map (λ n. net (top_net n)) (codes "0" ∷ flat.rails ++ top_ports flat.top)) (flat_map bearers ds) ≡ None) (sym flat_is) (clashless deck_bytes library_bytes o flat library h stem is suited)

  pub names_differ : has_twice (names_of_devices f) ≡ false
  names_differ = clashless_differ (codes "0" ∷ flat.rails ++ top_ports flat.top) f.devices free

  once : Once (map device_name f.devices)
  once = subst Once (sym (names_are f.devices)) (once_from (names_of_devices f) names_differ)

  many : length f.devices ≡ length cards
  many = as_many deck_bytes library_bytes o flat library h stem is suited ∙ sym (length-map flat.devices flat_card)

  long : length (new_names m.devices) ≡ length cards
  long = new.news_long _ (names_of_devices flat) ∙ length-map cards (λ (c : Card). c.name)

  as_many_nets : length (new_names m.nets) ≡ length olds
  as_many_nets = new.news_long _ olds

  -- a device that stands for an original one
  stands : (k : ℕ) → k < length cards → (d : FlatDevice) × Contains f.devices d × (g : IsGood run cards (new_names m.devices) new_net d) × (g.dev ≡ k)
  stands = stands_for run cards (new_names m.devices) new_net f.devices all_good once many long

  -- ---- nets

  -- an original device's nets
  nets_are : (k : ℕ) → k < length cards → (device_at (first_circuit run).devices k).nets ≡ map (net_number olds) (card_at cards k).nodes
  nets_are k lt = ap (λ (d : Device). d.nets) (get_or-map (device_of run.source olds) cards k (record { name = []; nodes = []; model = None; tail = [] }) (record { kind = 0; nets = [] }) lt)

  card_in : (k : ℕ) → k < length cards → Contains cards (card_at cards k)
  card_in k lt = Contains-get_or cards k (record { name = []; nodes = []; model = None; tail = [] }) lt

  low : (k i : ℕ) → k < length cards → Contains (device_at (first_circuit run).devices k).nets i → i < length olds
  low k i lt at =
      let r = from_map (net_number olds) (card_at cards k).nodes i (subst (λ (ns : List ℕ). Contains ns i) (nets_are k lt) at) in
      subst (λ n. n < length olds) r.2 (onces.place_within same_text exact itself olds r.0 (node_is_net cards (card_at cards k) r.0 (card_in k lt) r.1))

  -- each net stands on an original device, so on one that stands for it
  net_there : (i : ℕ) → i < length olds → Contains (flat_map bearers f.devices) (net (new_net i))
  net_there i lt =
      let name = name_at olds i in
      let r = from_flat_map (λ (c : Card). c.nodes) cards name (names_were (flat_map (λ (c : Card). c.nodes) cards) name (Contains-get_or olds i [] lt)) in
      let k = r.1.0 in
      let lk : k < length cards = r.1.1 in
      let card : card_at cards k ≡ r.0 = get_any cards k _ r.0 lk ∙ r.1.2 in
      let node = subst (λ (c : Card). Contains c.nodes name) (sym card) r.2 in
      let number : net_number olds name ≡ i = onces.place_at same_text exact itself olds i [] (each_once (flat_map (λ (c : Card). c.nodes) cards)) lt in
      let on = subst (λ (ns : List ℕ). Contains ns i) (sym (nets_are k lk)) (subst (λ n. Contains (map (net_number olds) (card_at cards k).nodes) n) number (in_map (net_number olds) (card_at cards k).nodes name node)) in
      net_stands run cards (new_names m.devices) new_net f.devices all_good once many long k i lk on

  agree : Agree (flat_map bearers f.devices)
  agree =
      let tops = codes "0" ∷ flat.rails ++ top_ports flat.top in
      let all = agree_by (flat_map bearers f.devices) (map (λ n. net (top_net n)) tops) (tops_agree tops) free in
      λ x y ax ay. all x y (Contains-append_right (map (λ n. net (top_net n)) tops) (flat_map bearers f.devices) (net x) ax) (Contains-append_right (map (λ n. net (top_net n)) tops) (flat_map bearers f.devices) (net y) ay)

  -- so new names of nets differ
  nets_differ : has_twice (new_names m.nets) ≡ false
  nets_differ =
      let cells_once : (c : Composite) → Contains h.last.composites c → Once (map body_name c.cell.cards) = λ c at. cards_named library (facts.library_read deck_bytes library_bytes o flat library h stem is suited) c.cell (facts.cell_in deck_bytes library_bytes o flat library h stem is suited c at) in
      let lows = facts.low deck_bytes library_bytes o flat library h stem is suited in
      let one = facts.one_number deck_bytes library_bytes o flat library h stem is suited in
      let own = one_of_all run h stem is.lawful in
      never_twice (new_names m.nets) (news_once run h stem (some_way stem h lows one own cells_once) (one_way stem h lows one own cells_once) (new_names m.nets) (new.news_long _ olds)
      (λ i lt. new.new_name_is run h stem is.lawful (good.sep deck_bytes library_bytes o flat library h stem is suited) i lt) (flat_map bearers f.devices) agree net_there)

  -- the new name of a net leads to its old one
  old_is : (i : ℕ) → i < length olds → old_name m.nets (net_name (new_net i)) ≡ name_at olds i
  old_is i lt = ap (old_name m.nets) (sym (name_under run h stem is.lawful i (name_at olds i))) ∙ net_back stem flat run.source h nets_differ i lt

  -- ---- pairing

  -- line by line
  line_stands : (z : (List ℕ × List ℕ) × Card) → Contains (zip m.devices cards) z → StandsFor m (cards_of f) z.0 z.1
  line_stands z at =
      let none : Card = record { name = []; nodes = []; model = None; tail = [] } in
      let r = zip_get m.devices cards ([], []) none z at in
      let k = r.0 in
      let s = stands k r.2 in
      let d = s.0 in
      let new_is : name_at (new_names m.devices) k ≡ z.0.0 = get_or-map (λ (n : List ℕ × List ℕ). n.0) m.devices k ([], []) [] r.1 ∙ ap (λ (n : List ℕ × List ℕ). n.0) r.3 in
      let old_at : z.0.1 ≡ (card_at cards k).name = sym (get_or-map (λ (n : List ℕ × List ℕ). n.1) m.devices k ([], []) [] r.1 ∙ ap (λ (n : List ℕ × List ℕ). n.1) r.3) ∙ ap (λ ns. get_or ns k []) (device_names_are stem flat run.source h) ∙ get_or-map (λ (c : Card). c.name) cards k none [] r.2 in
      let nums = (device_at (first_circuit run).devices k).nets in
      let nets : d.nets ≡ map new_net nums = s.2.netted ∙ ap (λ n. map new_net (device_at (first_circuit run).devices n).nets) s.3 in
      record {
        card = flat_card d;
        stands = in_map flat_card f.devices d s.1;
        named = s.2.named ∙ ap (name_at (new_names m.devices)) s.3 ∙ new_is;
        nodes = ap (λ ns. map (old_name m.nets) (map net_name ns)) nets ∙ ap (map (old_name m.nets)) (map_again net_name new_net nums) ∙ map_again (old_name m.nets) (λ i. net_name (new_net i)) nums
            ∙ map_both (λ i. old_name m.nets (net_name (new_net i))) (name_at olds) nums (λ i on. old_is i (low k i r.2 on)) ∙ original_nodes flat library o.keep k r.2 ∙ ap (λ (c : Card). c.nodes) r.4;
        model = s.2.model ∙ ap (λ n. (card_at cards n).model) s.3 ∙ ap (λ (c : Card). c.model) r.4;
        tail = s.2.tail ∙ ap (λ n. (card_at cards n).tail) s.3 ∙ ap (λ (c : Card). c.tail) r.4;
        letter = ap first_byte (sym new_is ∙ ap (name_at (new_names m.devices)) (sym s.3) ∙ sym s.2.named) ∙ s.2.letter ∙ ap (λ n. first_byte (card_at cards n).name) s.3 ∙ ap first_byte (sym old_at);
      }

  pub paired : ArePaired f m flat
  paired = record {
    each = each_in (λ (z : (List ℕ × List ℕ) × Card). StandsFor m (cards_of f) z.0 z.1) (zip m.devices cards) line_stands;
    known = λ card at.
        let r = from_map flat_card f.devices card at in
        subst (λ (c : Card). Contains (new_names m.devices) c.name) r.2 (named_new run cards (new_names m.devices) new_net f.devices all_good once many long (device_name r.0) (in_map device_name f.devices r.0 r.1));
  }

  -- link 5
  pub renamed : RenamedIsOriginal flat run h stem
  renamed =
      let own = flat_names_differ is.deck (run_rails is.deck.globals library.deck.globals) o.top flat is.flat_is in
      let fine = nets_parts cards (cards_fine flat (flat_known deck_bytes library_bytes o flat library h stem is)) in
      paired_back f m flat paired (once_from (names_of_devices f) names_differ) (device_names_are stem flat run.source h) (net_names_are stem flat run.source h)
      (λ e. no_empty (in_each _ olds [] fine e).some) (λ k. nets_apart k stem flat run.source h) (λ k. devices_apart k stem flat run.source h own) refl
    where
      no_empty : ltb 0 (length {A = ℕ} []) ≡ true → ⊥
      no_empty e = cc

  -- ---- names

  -- each written name is a new name of the map
  written_known : AreAmong (map bearer_name (flat_map bearers f.devices)) (new_names m.devices ++ new_names m.nets)
  written_known name at =
      let r = from_map bearer_name (flat_map bearers f.devices) name at in
      let q = from_flat_map bearers f.devices r.0 r.1 in
      elim (in_cons (device (device_name q.0)) (map net q.0.nets) r.0 q.2) [
        | inl same ↦ Contains-append_left (new_names m.devices) (new_names m.nets) name (subst (λ x. Contains (new_names m.devices) x) (ap bearer_name same ∙ r.2) (named_new run cards (new_names m.devices) new_net f.devices all_good once many long (device_name q.0) (in_map device_name f.devices q.0 q.1)))
        | inr later ↦
            let n = from_map net q.0.nets r.0 later in
            let g = in_each (IsGood run cards (new_names m.devices) new_net) f.devices q.0 all_good q.1 in
            let i = from_map new_net (device_at (first_circuit run).devices g.dev).nets n.0 (subst (λ (ns : List Net). Contains ns n.0) g.netted n.1) in
            let lt = low g.dev i.0 g.lies i.1 in
            let named : name_at (new_names m.nets) i.0 ≡ name = net_named i.0 lt ∙ ap net_name i.2 ∙ ap bearer_name n.2 ∙ r.2 in
            Contains-append_right (new_names m.devices) (new_names m.nets) name (subst (λ x. Contains (new_names m.nets) x) named (Contains-get_or (new_names m.nets) i.0 [] (omega (arith, lt, as_many_nets))))
      ]
    where
      net_named : (i : ℕ) → i < length olds → name_at (new_names m.nets) i ≡ net_name (new_net i)
      net_named i lt = new.new_name_is run h stem is.lawful (good.sep deck_bytes library_bytes o flat library h stem is suited) i lt

  -- and each new name of the map is written
  written_there : AreAmong (new_names m.devices ++ new_names m.nets) (map bearer_name (flat_map bearers f.devices))
  written_there name at = elim (Contains-append_cases (new_names m.devices) (new_names m.nets) name at) [
    | inl dev ↦
        let s = stands dev.0 (omega (arith, dev.1, long)) in
        let d = s.0 in
        let named : device_name d ≡ name = s.2.named ∙ ap (name_at (new_names m.devices)) s.3 ∙ get_any (new_names m.devices) dev.0 [] name dev.1 ∙ dev.2 in
        subst (λ x. Contains (map bearer_name (flat_map bearers f.devices)) x) named (in_map bearer_name (flat_map bearers f.devices) (device (device_name d)) (in_flat_map bearers f.devices d (device (device_name d)) s.1 (in_head (device (device_name d)) (map net d.nets))))
    | inr other ↦
        let lt : other.0 < length olds = omega (arith, other.1, as_many_nets) in
        let named : net_name (new_net other.0) ≡ name = sym (new.new_name_is run h stem is.lawful (good.sep deck_bytes library_bytes o flat library h stem is suited) other.0 lt) ∙ get_any (new_names m.nets) other.0 [] name other.1 ∙ other.2 in
        subst (λ x. Contains (map bearer_name (flat_map bearers f.devices)) x) named (in_map bearer_name (flat_map bearers f.devices) (net (new_net other.0)) (net_there other.0 lt))
  ]

  pub names_told : HasNewNames flat run h stem
  names_told = record { known = written_known; there = written_there }

  -- ---- the original devices under their new names

  new_stands : (z : List ℕ × Card) → Contains (zip (new_names m.devices) cards) z → Contains (cards_of f) (new_card m olds z)
  new_stands z at =
      let none : Card = record { name = []; nodes = []; model = None; tail = [] } in
      let r = zip_get (new_names m.devices) cards [] none z at in
      let k = r.0 in
      let s = stands k r.2 in
      let d = s.0 in
      let nums = (device_at (first_circuit run).devices k).nets in
      let nets : d.nets ≡ map new_net nums = s.2.netted ∙ ap (λ n. map new_net (device_at (first_circuit run).devices n).nets) s.3 in
      let named : device_name d ≡ z.0 = s.2.named ∙ ap (name_at (new_names m.devices)) s.3 ∙ r.3 in
      let numbered : (i : ℕ) → Contains nums i → net_name (new_net i) ≡ name_at (new_names m.nets) i = λ i on. sym (new.new_name_is run h stem is.lawful (good.sep deck_bytes library_bytes o flat library h stem is suited) i (low k i r.2 on)) in
      let nodes : map net_name d.nets ≡ map (λ n. name_at (new_names m.nets) (net_number olds n)) z.1.nodes = ap (map net_name) nets ∙ map_again net_name new_net nums ∙ map_both (λ i. net_name (new_net i)) (name_at (new_names m.nets)) nums numbered
      ∙ ap (map (name_at (new_names m.nets))) (nets_are k r.2) ∙ map_again (name_at (new_names m.nets)) (net_number olds) (card_at cards k).nodes ∙ ap (λ (c : Card). map (λ n. name_at (new_names m.nets) (net_number olds n)) c.nodes) r.4 in
      let model : d.card.model ≡ z.1.model = s.2.model ∙ ap (λ n. (card_at cards n).model) s.3 ∙ ap (λ (c : Card). c.model) r.4 in
      let tail : d.card.tail ≡ z.1.tail = s.2.tail ∙ ap (λ n. (card_at cards n).tail) s.3 ∙ ap (λ (c : Card). c.tail) r.4 in
      subst (λ (c : Card). Contains (cards_of f) c) (card_by named nodes model tail) (in_map flat_card f.devices d s.1)
    where
      as_card : List ℕ → List (List ℕ) → Option (List ℕ) → List ℕ → Card
      as_card a ns p t = record { name = a; nodes = ns; model = p; tail = t }

      card_by : {a b : List ℕ} {ns ms : List (List ℕ)} {p q : Option (List ℕ)} {t u : List ℕ} → a ≡ b → ns ≡ ms → p ≡ q → t ≡ u → as_card a ns p t ≡ as_card b ms q u
      card_by {a} {b} {ns} {ms} {p} {q} {t} {u} r s x y = ap (λ v. as_card v ns p t) r ∙ ap (λ v. as_card b v p t) s ∙ ap (λ v. as_card b ms v t) x ∙ ap (as_card b ms q) y

  pub new_cards_stand : HasNewCards flat run h stem
  new_cards_stand = each_of (new_card m olds) (λ c. Contains (cards_of f) c) (zip (new_names m.devices) cards) new_stands where
    each_of : {X Y : Type 0} (g : X → Y) (P : Y → Type 0) (xs : List X) → ((x : X) → Contains xs x → P (g x)) → AllByRecursion P (map g xs)
    each_of g P xs on = each_in P (map g xs) (λ y at. let r = from_map g xs y at in subst P r.2 (on r.0 r.1))
