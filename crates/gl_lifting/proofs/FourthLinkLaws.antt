-- Link 4: the lifted deck of a lawful history of bytes is flattened, and has as many devices as the original.
use Rattle.std.proofs.Common.{◌≡◌, ◌≤◌, ◌<◌, ◌∙◌, ℕ, List, [], ◌∷◌, ◌++◌, length, map, Bool, true, false, None, Some, Ok, codes, refl, sym, ap, subst, arith, inl, inr}
use Rattle.std.specs.Prelude.{◌||◌, not, Contains, flat_map, sum_by, zip, option_map}
use Rattle.std.specs.List.{AllByRecursion}
use Rattle.std.proofs.lemmas.Bool.{false_from_ne_true}
use Rattle.std.proofs.lemmas.List.{length-map}
use Rattle.std.proofs.lemmas.List.Elements.{Contains-append_left, Contains-append_right, Contains-append_cases, Contains-get_or}
use Rattle.gl_match.proofs.Lists.{Once, in_head, in_tail, in_map, in_filter}
use Rattle.gl_text.specs.LogicalLines.{NAME, same_text}
use Rattle.gl_text.specs.Cards.{Device as Card, Head}
use Rattle.gl_text.specs.Decks.{Body, Sub, Deck, once, is_in}
use Rattle.gl_text.specs.Flattening.{DEPTH, CARDS, DEVICES, TEXT, Flat, FlatDevice, net, top_net, top_place, chosen, first_clash, flat_text, top_ports, is_rail, bearers, bearer_name, count, one, one_device, size_of, sizes, flat_devices, devices_of, flat_card}
use Rattle.gl_printed.specs.ReadDecks.{IsReadDeck}
use Rattle.gl_base.specs.BaseCircuit.{Source, nets_of}
use Rattle.gl_base.specs.Libraries.{Library}
use Rattle.gl_base.specs.Rails.{all_rails, run_rails, zero_rail}
use Rattle.gl_base.specs.Reports.{name_at}
use Rattle.gl_base.specs.Rounds.{cards_of}
use Rattle.gl_base.specs.Stems.{StandsIn, names_in}
use Rattle.gl_base.proofs.OnceLaws as onces
use Rattle.gl_base.proofs.TextLaws.{exact, itself, names_stay, node_is_net}
use Rattle.gl_lifting.specs.Runs.{run_of}
use Rattle.gl_lifting.specs.Replacement.{Slot, Composite}
use Rattle.gl_lifting.specs.Histories.{History}
use Rattle.gl_lifting.specs.Variants.{Variants, card_at, variants_of, variant_names}
use Rattle.gl_printed.specs.FlatDecks.{subs_around}
use Rattle.gl_lifting.specs.LiftedDecks.{slot_card, top_name, variant_sub, lifted_deck}
use Rattle.gl_lifting.specs.OutLimits.{limits, out_limit, expanded_cards, lifted_flat}
use Rattle.gl_lifting.specs.Lifted.{Options}
use Rattle.gl_lifting.specs.Chain.{IsLawfulOf, LiftedIsFlat}
use Rattle.gl_lifting.specs.Suited.{HasSuited}
use Rattle.gl_lifting.proofs.FlatCardLaws.{cards_apart}
use Rattle.gl_lifting.proofs.TopCardLaws.{one_device as one_card}
use Rattle.gl_lifting.proofs.ReadBytesLaws.{flat_known}
use Rattle.gl_lifting.proofs.ThreeLinkLaws.{cells_told}
use Rattle.gl_lifting.proofs.CountLaws.{IsFlatOf, flat_of_deck, flat_few, devices_count}
use Rattle.gl_lifting.proofs.LeafLaws.{leaves, all_leaves, slots_leaves}
use Rattle.gl_lifting.proofs.ManyLaws.{history_weighs}
use Rattle.gl_lifting.proofs.TreeLaws.{none_deep}
use Rattle.gl_lifting.proofs.OwnerLaws as owners
use Rattle.gl_lifting.proofs.FlattenLaws.{flattened}
use Rattle.gl_lifting.proofs.ChosenTopLaws.{limits_kept, asked_is, chosen_top, expanded_top}
use Rattle.gl_lifting.proofs.LibraryLaws.{IsClear}
use Rattle.gl_lifting.proofs.CellFactLaws.{names_once, nets_agree, begin}
use Rattle.gl_lifting.proofs.LiftedFactLaws as facts
use Rattle.gl_lists.proofs.Bools.{not_both}

-- the rails of the library are the run's
fewer_rails : (deck library : List (List ℕ)) (name : List ℕ) → is_rail (run_rails deck library) name ≡ false → is_rail library name ≡ false
fewer_rails deck library name off = false_from_ne_true (is_rail library name) (λ on. not_both (is_rail (run_rails deck library) name) (by (same_text name (codes "0")) refl on) off) where
  by : (b : Bool) → same_text name (codes "0") ≡ b → is_rail library name ≡ true → is_rail (run_rails deck library) name ≡ true
  by true zero on = ap (λ t. t || is_in name (run_rails deck library)) zero
  by false other on =
      let among : is_in name library ≡ true = sym (ap (λ t. t || is_in name library) other) ∙ on in
      let here = names_stay (deck ++ library) name (Contains-append_right deck library name (onces.there same_text exact itself library name among)) in
      let kept = in_filter (λ x. not (same_text x zero_rail)) (once (deck ++ library)) name here (ap not other) in
      ap (λ t. t || is_in name (run_rails deck library)) other ∙ onces.found same_text exact itself (run_rails deck library) name kept

-- a name that is a rail is one of all rails
rail_there : (rails : List (List ℕ)) (name : List ℕ) → is_rail rails name ≡ true → Contains (all_rails rails) name
rail_there rails name on = by (same_text name (codes "0")) refl where
  by : (b : Bool) → same_text name (codes "0") ≡ b → Contains (all_rails rails) name
  by true zero = subst (λ x. Contains (all_rails rails) x) (sym (exact name (codes "0") zero)) (in_head zero_rail rails)
  by false other = in_tail zero_rail rails name (onces.there same_text exact itself rails name (sym (ap (λ t. t || is_in name rails) other) ∙ on))

-- flat devices of mapped cards
flat_map_map : (f : Body → List FlatDevice) (g : Slot → Body) (xs : List Slot) → flat_map f (map g xs) ≡ flat_map (λ x. f (g x)) xs
flat_map_map f g [] = refl
flat_map_map f g (x ∷ xs) = ap (λ ds. f (g x) ++ ds) (flat_map_map f g xs)

module _ (deck_bytes library_bytes : List ℕ) (o : Options) (flat : Flat) (library : Library) (h : History) (stem : List ℕ) (is : IsLawfulOf deck_bytes library_bytes o flat library h stem) (suited : HasSuited (run_of flat library o.keep).source flat library h) where
  abbrev s : Source
  s = (run_of flat library o.keep).source

  abbrev cards : List Card
  cards = cards_of flat

  abbrev cs : List Composite
  cs = h.last.composites

  abbrev vs : Variants
  vs = variants_of (cards_of flat) h.last.composites

  abbrev names : List (List ℕ)
  names = variant_names (top_name flat) (variants_of (cards_of flat) h.last.composites).different

  abbrev bodies : List Body
  bodies = map (slot_card stem (cards_of flat) (variant_names (top_name flat) (variants_of (cards_of flat) h.last.composites).different) (variants_of (cards_of flat) h.last.composites).numbers) h.last.slots

  abbrev vsubs : List Sub
  vsubs = map (variant_sub s names) (zip names vs.different)

  abbrev subs : List Sub
  subs = vsubs ++ subs_around flat.top bodies

  abbrev deck : Deck
  deck = lifted_deck stem flat (run_of flat library o.keep).source h

  -- what the original is flattened from
  original : IsFlatOf is.deck (run_rails is.deck.globals library.deck.globals) o.top flat
  original = flat_of_deck is.deck (run_rails is.deck.globals library.deck.globals) o.top flat is.flat_is

  top_is : o.top ≡ option_map (λ (x : Head). x.name) flat.top
  top_is = asked_is is.deck o.top original.head original.cards original.chosen_is ∙ ap (λ (f : Flat). option_map (λ (x : Head). x.name) f.top) original.flat_is

  fewer : (name : List ℕ) → is_rail flat.rails name ≡ false → is_rail library.deck.globals name ≡ false
  fewer name off = fewer_rails is.deck.globals library.deck.globals name (ap (λ (f : Flat). is_rail f.rails name) original.flat_is ∙ off)

  apart : Once (map (λ (c : Card). c.name) cards)
  apart = cards_apart flat (flat_known deck_bytes library_bytes o flat library h stem is)

  -- ---- old names

  abbrev own_names : List (List ℕ)
  own_names = map (λ (c : Card). c.name) cards

  abbrev nets : List (List ℕ)
  nets = nets_of cards

  in_cards : (k : ℕ) → k < length cards → Contains cards (card_at cards k)
  in_cards k lt = Contains-get_or cards k (record { name = []; nodes = []; model = None; tail = [] }) lt

  old_free : (name : List ℕ) → Contains (names_in flat) name → StandsIn stem name → ⊥
  old_free name old stands = subst (λ x. StandsIn stem x → ⊥) old.2 (is.stem_is.unused old.0 name old.1) stands

  old_rails : (name : List ℕ) → is_rail flat.rails name ≡ true → Contains (names_in flat) name
  old_rails name on = Contains-append_left ((own_names ++ nets) ++ all_rails flat.rails) (top_ports flat.top) name (Contains-append_right (own_names ++ nets) (all_rails flat.rails) name (rail_there flat.rails name on))

  old_net : (name : List ℕ) → Contains nets name → Contains (names_in flat) name
  old_net name at = Contains-append_left ((own_names ++ nets) ++ all_rails flat.rails) (top_ports flat.top) name (Contains-append_left (own_names ++ nets) (all_rails flat.rails) name (Contains-append_right own_names nets name at))

  old_card : (dev : ℕ) → dev < length cards → Contains (names_in flat) (card_at cards dev).name
  old_card dev lt =
      let name = (card_at cards dev).name in
      Contains-append_left ((own_names ++ nets) ++ all_rails flat.rails) (top_ports flat.top) name (Contains-append_left (own_names ++ nets) (all_rails flat.rails) name (Contains-append_left own_names nets name (in_map (λ (c : Card). c.name) cards (card_at cards dev) (in_cards dev lt))))

  old_tops : (name : List ℕ) → Contains (codes "0" ∷ flat.rails ++ top_ports flat.top) name → Contains (names_in flat) name
  old_tops name at = elim (Contains-append_cases (codes "0" ∷ flat.rails) (top_ports flat.top) name at) [
    | inl rail ↦ Contains-append_left ((own_names ++ nets) ++ all_rails flat.rails) (top_ports flat.top) name (Contains-append_right (own_names ++ nets) (all_rails flat.rails) name rail)
    | inr port ↦ Contains-append_right ((own_names ++ nets) ++ all_rails flat.rails) (top_ports flat.top) name port
  ]

  -- ---- the lifted deck

  -- the last circuit's cards are expanded
  pub expanded : expanded_cards flat.top deck ≡ bodies
  expanded = expanded_top deck flat.top vsubs bodies refl refl

  others : (head : Head) → flat.top ≡ Some head → AllByRecursion (λ (x : Sub). same_text x.head.name head.name ≡ false) vsubs
  others head e = facts.variants_other deck_bytes library_bytes o flat library h stem is suited head e

  -- no names clash
  pub clashless : first_clash (map (λ n. net (top_net n)) (codes "0" ∷ flat.rails ++ top_ports flat.top)) (flat_map bearers (flat_devices flat.rails subs DEPTH top_place bodies)) ≡ None
  clashless =
      ap (λ ds. first_clash (map (λ n. net (top_net n)) (codes "0" ∷ flat.rails ++ top_ports flat.top)) (flat_map bearers ds)) (flat_map_map (devices_of flat.rails subs (flat_devices flat.rails subs 31) top_place) (slot_card stem cards names vs.numbers) h.last.slots)
      ∙ owners.none_clash_there s cards cs names vs.numbers subs library.deck.subs flat.rails library.deck.globals stem (λ name. Contains (names_in flat) name) old_rails old_free
      (λ dev name lt at. old_net name (node_is_net cards (card_at cards dev) name (in_cards dev lt) at)) (λ net lt. old_net (name_at nets net) (Contains-get_or nets net [] lt)) old_card (one_card flat stem is.stem_is apart)
      (facts.found deck_bytes library_bytes o flat library h stem is suited) (facts.known deck_bytes library_bytes o flat library h stem is suited) fewer (facts.low deck_bytes library_bytes o flat library h stem is suited)
      (λ c at. begin library library_read clear c.cell (cell_in c at)) (λ c at. names_once library library_read clear c.cell (cell_in c at))
      (facts.one_number deck_bytes library_bytes o flat library h stem is suited) (λ c at. nets_agree library library_read clear c.cell (cell_in c at))
      (codes "0" ∷ flat.rails ++ top_ports flat.top) old_tops h.last.slots (facts.slots_trees deck_bytes library_bytes o flat library h stem is suited) (facts.origins_once deck_bytes library_bytes o flat library h stem is suited)
    where
      library_read : IsReadDeck library.deck
      library_read = facts.library_read deck_bytes library_bytes o flat library h stem is suited

      clear : IsClear library
      clear = facts.clear deck_bytes library_bytes o flat library h stem is suited

      cell_in : (c : Composite) → Contains cs c → Contains library.deck.subs c.cell
      cell_in = facts.cell_in deck_bytes library_bytes o flat library h stem is suited

  -- the last circuit's cards count as many devices as the original has
  counted : sum_by (size_of one_device (sizes one_device subs 32)) bodies ≡ length flat.devices
  counted =
      let found = facts.found deck_bytes library_bytes o flat library h stem is suited in
      slots_leaves s cards cs names vs.numbers subs found stem 32 h.last.slots
      ∙ history_weighs (leaves subs names vs.numbers 32) (λ d. refl) (run_of flat library o.keep) h (cells_told library_bytes library is.library_is) is.lawful
      (all_leaves s cards cs names vs.numbers subs found 15 31 (omega arith) cs (λ c at. (at, facts.trees deck_bytes library_bytes o flat library h stem is suited c at)))
      ∙ length-map flat.devices flat_card

  -- as many devices
  pub as_many : length (lifted_flat flat.top deck).devices ≡ length flat.devices
  as_many = ap (λ bs. length (flat_devices flat.rails subs DEPTH top_place bs)) expanded ∙ devices_count flat.rails subs DEPTH top_place bodies ∙ counted

  -- link 4
  pub lifted_is_flat : (map_bytes report : List ℕ) → out_limit limits flat.top deck map_bytes report ≡ None → LiftedIsFlat o flat (run_of flat library o.keep) h stem
  lifted_is_flat map_bytes report e =
      let kept = limits_kept flat.top deck map_bytes report e in
      let chosen_is = ap (chosen deck) top_is ∙ chosen_top deck flat.top vsubs bodies refl refl others in
      let few : sum_by (size_of one_device (sizes one_device subs DEPTH)) bodies ≤ DEVICES = subst (λ n. n ≤ DEVICES) (sym counted) (flat_few is.deck (run_rails is.deck.globals library.deck.globals) o.top flat is.flat_is) in
      let deep = none_deep s cards cs names vs.numbers subs (facts.subs_once deck_bytes library_bytes o flat library h stem is suited) (facts.found deck_bytes library_bytes o flat library h stem is suited) stem 15 DEPTH h.last.slots (facts.slots_trees deck_bytes library_bytes o flat library h stem is suited) (omega arith) in
      let whole = flattened deck flat.rails o.top flat.top bodies chosen_is deep (subst (λ bs. count one subs bs ≤ CARDS) expanded kept.cards) few
      (subst (λ bs. length (flat_text (record { title = flat.title; rails = flat.rails; models = flat.models; top = flat.top; devices = flat_devices flat.rails subs DEPTH top_place bs; passed = flat.passed })) ≤ TEXT) expanded kept.text)
      (subst (λ bs. AllByRecursion (λ b. length (bearer_name b) ≤ NAME) (flat_map bearers (flat_devices flat.rails subs DEPTH top_place bs))) expanded kept.names) clashless in
      whole ∙ ap (λ bs. Ok (record { title = flat.title; rails = flat.rails; models = flat.models; top = flat.top; devices = flat_devices flat.rails subs DEPTH top_place bs; passed = flat.passed })) (sym expanded)
