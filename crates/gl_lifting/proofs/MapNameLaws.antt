-- The names of the map are names, and its new names differ: this follows from links 4, 5 and 6 and the number of devices.
use Rattle.std.proofs.Common.{◌≡◌, ◌+◌, ℕ, List, [], ◌∷◌, length, map, flat_map, true, Option, None, Some, refl, sym, ap, ◌∙◌, subst, arith}
use Rattle.std.specs.Prelude.{Contains, find, filter_map, option_map}
use Rattle.std.specs.List.{AllByRecursion}
use Rattle.std.proofs.lemmas.List.{length-map}
use Rattle.gl_match.proofs.Lists.{Once, once_map, from_map, in_map, from_flat_map}
use Rattle.gl_text.specs.LogicalLines.{same_text}
use Rattle.gl_text.specs.Cards.{Device as Card, dev}
use Rattle.gl_text.specs.Decks.{is_in}
use Rattle.gl_text.specs.Flattening.{Flat, FlatDevice, flat_card}
use Rattle.gl_printed.specs.ReadCards.{IsFine}
use Rattle.gl_printed.specs.ReadDecks.{IsReadDeck}
use Rattle.gl_printed.specs.FlatDecks.{AreRails, deck_of}
use Rattle.gl_printed.proofs.Each.{each_to, each_both}
use Rattle.gl_printed.proofs.FlatDeckLaws.{flat_fine_deck}
use Rattle.gl_base.specs.BaseCircuit.{nets_of}
use Rattle.gl_base.specs.Rounds.{cards_of}
use Rattle.gl_base.proofs.OnceLaws.{there}
use Rattle.gl_base.proofs.TextLaws.{exact, itself, each_once, never_twice, names_were}
use Rattle.gl_lifting.specs.Runs.{Run}
use Rattle.gl_lifting.specs.Histories.{History}
use Rattle.gl_lifting.specs.LiftedDecks.{lifted_deck}
use Rattle.gl_lifting.specs.NameMaps.{NameMap, map_of}
use Rattle.gl_lifting.specs.MapReading.{is_map_name}
use Rattle.gl_text.specs.PlainFlats.{plain, plain_device}
use Rattle.gl_lifting.specs.Renaming.{missing, extra, device_back, old_name, new_names, names_of_devices, restore_fault, renamed, first_missing, first_line, is_for_none}
use Rattle.gl_lifting.specs.OutLimits.{lifted_flat}
use Rattle.gl_lifting.specs.Lifted.{Options}
use Rattle.gl_lifting.specs.Chain.{LiftedIsFlat, RenamedIsOriginal, LiftedIsRead, MapHasNames}
use Rattle.gl_lifting.proofs.MapLaws.{device_names_are, net_names_are}
use Rattle.gl_lifting.proofs.TurnedNameLaws.{each_mapped}
use Rattle.gl_lifting.proofs.FlatCardLaws.{in_each, one_key, cards_fine, cards_apart, nets_parts}
use Rattle.gl_lifting.proofs.LimitLaws.{each_unmap}
use Rattle.gl_lifting.proofs.RestoredLaws.{part_is_name, not_refused, no_fault, nothing, lines_known, names_known, pigeons, old_line, once_unmap}
use Rattle.gl_text.specs.WayBack.{IsName}
use Rattle.gl_lists.proofs.Filters.{from_filter_map}
use Rattle.std.proofs.lemmas.Option.{same_Some as some_is}

-- ---- names of flat decks

-- the names of devices are names
device_parts_of : (f : Flat) → IsReadDeck (deck_of f) → AllByRecursion IsName (names_of_devices f)
device_parts_of f r = each_mapped IsName (λ (c : Card). c.name) (cards_of f) (each_to (λ (c : Card). IsFine (dev c)) (λ (c : Card). IsName c.name) (λ c h. h.is_read.names.0) (cards_of f) (cards_fine f r))

-- lines whose new names are among names, and whose old names are names
names_of_lines : (lines : List (List ℕ × List ℕ)) (news olds : List (List ℕ)) → AllByRecursion IsName news → AllByRecursion IsName olds → AllByRecursion (λ (n : List ℕ × List ℕ). is_in n.0 news ≡ true) lines → map (λ (n : List ℕ × List ℕ). n.1) lines ≡ olds
    → AllByRecursion (λ (n : List ℕ × List ℕ). (is_map_name n.0 ≡ true) × (is_map_name n.1 ≡ true)) lines
names_of_lines lines news olds new-parts old-parts known e =
    let old : AllByRecursion (λ (n : List ℕ × List ℕ). IsName n.1) lines = each_unmap IsName (λ (n : List ℕ × List ℕ). n.1) lines (subst (λ ns. AllByRecursion IsName ns) (sym e) old-parts) in
    each_both (λ (n : List ℕ × List ℕ). is_in n.0 news ≡ true) (λ (n : List ℕ × List ℕ). IsName n.1) (λ (n : List ℕ × List ℕ). (is_map_name n.0 ≡ true) × (is_map_name n.1 ≡ true))
    (λ n k p. (part_is_name n.0 (in_each IsName news n.0 new-parts (there same_text exact itself news n.0 k)), part_is_name n.1 p)) lines known old

-- ---- the renamed devices are the original ones

-- plain devices keep their cards
plain_cards : (xs : List Card) → map (λ (d : FlatDevice). d.card) (map plain_device xs) ≡ xs
plain_cards [] = refl
plain_cards (x ∷ xs) = ap (λ ys. x ∷ ys) (plain_cards xs)

-- a node of a renamed device is the old name of some new one
node_back : (m : NameMap) (ds : List Card) (lines : List (List ℕ × List ℕ)) (c : Card) (b : List ℕ) → Contains (filter_map (device_back m ds) lines) c → Contains c.nodes b → (y : List ℕ) × (old_name m.nets y ≡ b)
node_back m ds lines c b h at =
    let r = from_filter_map (device_back m ds) lines c h in
    go r.0 (find (λ (d : Card). same_text d.name r.0.0) ds) r.1
  where
    go : (n : List ℕ × List ℕ) (o : Option Card) → option_map (λ (d : Card). record { name = n.1; nodes = map (old_name m.nets) d.nodes; model = d.model; tail = d.tail }) o ≡ Some c → (y : List ℕ) × (old_name m.nets y ≡ b)
    go n None e = absurd cc
    go n (Some d) e =
        let same : map (old_name m.nets) d.nodes ≡ c.nodes = ap (λ (x : Card). x.nodes) (some_is (record { name = n.1; nodes = map (old_name m.nets) d.nodes; model = d.model; tail = d.tail }) c e) in
        let r = from_map (old_name m.nets) d.nodes b (subst (λ ns. Contains ns b) (sym same) at) in
        (r.0, r.2)

-- where each old name comes from some new one, and old names differ, new names differ
news_apart : (lines : List (List ℕ × List ℕ)) → Once (map (λ (n : List ℕ × List ℕ). n.1) lines) → AllByRecursion (λ (n : List ℕ × List ℕ). IsName n.1) lines → ((b : List ℕ) → Contains (map (λ (n : List ℕ × List ℕ). n.1) lines) b → (y : List ℕ) × (old_name lines y ≡ b)) → Once (new_names lines)
news_apart lines once parts back =
    once_map (λ (n : List ℕ × List ℕ). n.0) lines (once_unmap (λ (n : List ℕ × List ℕ). n.1) lines once) (λ a b ha hb e. one_key (λ (n : List ℕ × List ℕ). n.1) lines a b once ha hb (sym (own a ha) ∙ ap (old_name lines) e ∙ own b hb))
  where
    own : (n : List ℕ × List ℕ) → Contains lines n → old_name lines n.0 ≡ n.1
    own n h =
        let r = back n.1 (in_map (λ (x : List ℕ × List ℕ). x.1) lines n h) in
        let l = old_line lines r.0 n.1 (in_each (λ (x : List ℕ × List ℕ). IsName x.1) lines n parts h).some r.1 in
        let same = one_key (λ (x : List ℕ × List ℕ). x.1) lines l.0 n once l.1 h l.3 in
        ap (old_name lines) (sym (ap (λ (x : List ℕ × List ℕ). x.0) same) ∙ l.2) ∙ r.1

-- ---- the map

-- the names of the map
pub map_names : (o : Options) (flat : Flat) (run : Run) (h : History) (stem : List ℕ) → IsReadDeck (deck_of flat) → LiftedIsRead flat run h stem → LiftedIsFlat o flat run h stem → RenamedIsOriginal flat run h stem
    → length (lifted_flat flat.top (lifted_deck stem flat run.source h)).devices ≡ length flat.devices → MapHasNames flat run h stem
map_names o flat run h stem flat-read read is-flat restored many =
    let deck = lifted_deck stem flat run.source h in
    let lf = lifted_flat flat.top deck in
    let m = map_of stem flat run.source h in
    let devices = names_of_devices lf in
    let nets = nets_of (cards_of lf) in
    let behind = 2 + length m.devices in
    let rails : AreRails deck.globals = record { fine = read.globals; differ = read.globals_differ; no_zero = read.no_zero } in
    let lf-read : IsReadDeck (deck_of lf) = flat_fine_deck deck deck.globals o.top lf read rails is-flat in
    let r = not_refused (restore_fault lf m) (renamed lf m) (plain flat) restored in
    let f1 = no_fault (option_map missing (first_missing m.devices devices)) _ r.0 in
    let f2 = no_fault (option_map missing (first_missing m.nets nets)) _ f1.1 in
    let f3 = no_fault (option_map extra (first_line (is_for_none devices) 2 [] m.devices)) _ f2.1 in
    let f4 = no_fault (option_map extra (first_line (is_for_none nets) behind [] m.nets)) _ f3.1 in
    let all-devices = names_known m.devices devices (nothing missing (first_missing m.devices devices) f1.0) in
    let known-devices = lines_known devices 2 [] m.devices (nothing extra (first_line (is_for_none devices) 2 [] m.devices) f3.0) in
    let known-nets = lines_known nets behind [] m.nets (nothing extra (first_line (is_for_none nets) behind [] m.nets) f4.0) in
    let old-devices = device_names_are stem flat run.source h in
    let old-nets = net_names_are stem flat run.source h in
    let cards-back : filter_map (device_back m (cards_of lf)) m.devices ≡ cards_of flat = sym (plain_cards (filter_map (device_back m (cards_of lf)) m.devices)) ∙ ap (λ (f : Flat). map (λ (d : FlatDevice). d.card) f.devices) r.1 ∙ plain_cards (cards_of flat) in
    let net-parts = nets_parts (cards_of flat) (cards_fine flat flat-read) in
    let long-new = length-map m.devices (λ (n : List ℕ × List ℕ). n.0) in
    let long-old = sym (length-map m.devices (λ (n : List ℕ × List ℕ). n.1)) ∙ ap length old-devices ∙ length-map (cards_of flat) (λ (c : Card). c.name) ∙ length-map flat.devices flat_card in
    let long-lifted = length-map (cards_of lf) (λ (c : Card). c.name) ∙ length-map lf.devices flat_card in
    record {
      devices = names_of_lines m.devices devices (names_of_devices flat) (device_parts_of lf lf-read) (device_parts_of flat flat-read) known-devices old-devices;
      nets = names_of_lines m.nets nets (nets_of (cards_of flat)) (nets_parts (cards_of lf) (cards_fine lf lf-read)) net-parts known-nets old-nets;
      devices_differ = never_twice (new_names m.devices) (pigeons devices (new_names m.devices) (cards_apart lf lf-read) (omega (arith, long-new, long-old, long-lifted, many))
          (λ x at. there same_text exact itself (new_names m.devices) x (in_each (λ name. is_in name (new_names m.devices) ≡ true) devices x all-devices at)));
      nets_differ = never_twice (new_names m.nets) (news_apart m.nets (subst Once (sym old-nets) (each_once (flat_map (λ (c : Card). c.nodes) (cards_of flat))))
          (each_unmap IsName (λ (n : List ℕ × List ℕ). n.1) m.nets (subst (λ ns. AllByRecursion IsName ns) (sym old-nets) net-parts))
          (λ b at.
          let stands = names_were (flat_map (λ (c : Card). c.nodes) (cards_of flat)) b (subst (λ ns. Contains ns b) old-nets at) in
          let card = from_flat_map (λ (c : Card). c.nodes) (cards_of flat) b stands in
          node_back m (cards_of lf) m.devices card.0 b (subst (λ cs. Contains cs card.0) (sym cards-back) card.1) card.2));
    }
