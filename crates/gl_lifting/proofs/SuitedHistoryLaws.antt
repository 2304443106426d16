-- All parts of a lawful history suit.
use Rattle.std.proofs.Common.{◌≡◌, ◌≤◌, ◌<◌, ◌+◌, ◌^◌, ℕ, List, [], ◌∷◌, ◌++◌, length, map, flat_map, cond, eqb, true, false, Bool, Some, refl, sym, ap, ◌∙◌, subst, arith, inl, inr}
use Rattle.std.specs.Prelude.{Contains, slice_get, slice_index_or, zip, find, filter}
use Rattle.std.specs.List.{AllByRecursion, enumerate_from}
use Rattle.std.proofs.lemmas.List.Elements.{Contains-append_left, Contains-append_right}
use Rattle.std.proofs.lemmas.Option.{slice_get_within, get_or_from_slice_get, same_Some as some_is}
use Rattle.gl_match.specs.Graph.{Device}
use Rattle.gl_match.proofs.Lists.{in_cons, in_none, in_head, in_tail, in_map, in_flat_map, from_map, from_filter}
use Rattle.gl_text.specs.LogicalLines.{same_text}
use Rattle.gl_text.specs.Cards.{Device as Card}
use Rattle.gl_text.specs.CellCards.{device_in, devices_in}
use Rattle.gl_text.specs.Decks.{Body, dev_at, call_at, Sub}
use Rattle.gl_text.specs.Flattening.{Flat}
use Rattle.gl_printed.specs.ReadDecks.{FindsSubWithin, IsReadSub, IsReadDeck}
use Rattle.gl_printed.proofs.Each.{each_both, each_to}
use Rattle.gl_base.specs.TypeNames.{of_cell, same_type, port_classes}
use Rattle.gl_base.specs.BaseCircuit.{Source, type_in, types_of, nets_of, net_number, device_of}
use Rattle.gl_base.specs.Libraries.{Library, Cell}
use Rattle.gl_base.specs.Rounds.{cards_of, cells_at, is_searched}
use Rattle.gl_base.proofs.OnceLaws.{place_within, in_once}
use Rattle.gl_base.proofs.TextLaws.{exact, itself, node_is_net}
use Rattle.gl_base.proofs.TypeLaws as types_are
use Rattle.gl_lifting.specs.Runs.{Run, run_of, cell_type, searched_at}
use Rattle.gl_lifting.specs.Replacement.{Origin, base, made, Slot}
use Rattle.gl_lifting.specs.Histories.{History, IsLawful, first_stage}
use Rattle.gl_lifting.specs.Chain.{DevicesOnce, CompositesOnce, all_origins}
use Rattle.gl_lifting.specs.Suited.{SuitsOrigin, IsTyped, IsOfKnownType, HasSuited}
use Rattle.gl_lifting.proofs.GoodVariantLaws.{get_left}
use Rattle.gl_lifting.proofs.TurnedNameLaws.{each_in, each_mapped}
use Rattle.gl_lifting.proofs.FlatCardLaws.{in_each, at_each}
use Rattle.gl_lifting.proofs.SuitedLaws.{first_typed}
use Rattle.gl_lifting.proofs.ChosenSuitLaws.{to_mapped}
use Rattle.gl_lifting.proofs.SuitedStageLaws.{Below, Holds, StageHolds, find_in}
use Rattle.gl_lifting.proofs.RoundLaws.{rounds_hold}
pub use Rattle.gl_lists.proofs.Zips.{left_in}

-- ---- the first stage

-- an original device suits
first_suits : (run : Run) (kind : ℕ) (nets : List ℕ) (o : Origin) → IsTyped run [] kind o → SuitsOrigin run.source.devices [] nets o
first_suits run kind nets (base dev) h = h.0
first_suits run kind nets (made number) h = absurd (let lt = slice_get_within [] h.place h.composite h.stands in omega (arith, lt))

-- the nets of original devices
first_nets : (s : Source) (k : ℕ) (ds : List Card) → ((d : Card) → Contains ds d → Contains s.devices d)
    → AllByRecursion (λ (t : Slot). Below (length (nets_of s.devices)) t.device.nets) (map (λ (n : ℕ × Device). record { device = n.1; origin = base n.0 }) (enumerate_from k (map (device_of s (nets_of s.devices)) ds)))
first_nets s k [] inside = tt
first_nets s k (d ∷ ds) inside = (
  each_mapped (λ net. net < length (nets_of s.devices)) (net_number (nets_of s.devices)) d.nodes (each_in (λ name. net_number (nets_of s.devices) name < length (nets_of s.devices)) d.nodes (λ name at. place_within same_text exact itself (nets_of s.devices) name (node_is_net s.devices d name (inside d (in_head d ds)) at))),
  first_nets s (k + 1) ds (λ e h. inside e (in_tail d ds e h)),
)

-- what is known of the first stage
first_holds : (run : Run) (subs : List Sub) → StageHolds run subs (first_stage run)
first_holds run subs = record {
  slots = each_both (λ (t : Slot). IsTyped run [] t.device.kind t.origin) (λ (t : Slot). Below (length (nets_of run.source.devices)) t.device.nets) (Holds run [])
      (λ t typed nets. record { typed = typed; suits = first_suits run t.device.kind t.device.nets t.origin typed; nets = nets }) (first_stage run).slots (first_typed run) (first_nets run.source 0 run.source.devices (λ d h. h));
  composites = λ place c e. absurd (let lt = slice_get_within [] place c e in omega (arith, lt));
}

-- ---- the cards of cells are of known types

-- a device card is one of the devices
in_devices : (cs : List Body) (line : ℕ) (d : Card) → Contains cs (dev_at line d) → Contains (devices_in cs) d
in_devices [] line d h = absurd (in_none (dev_at line d) h)
in_devices (dev_at l e ∷ cs) line d h = elim (in_cons (dev_at l e) cs (dev_at line d) h) [
  | inl same ↦ let one = some_is e d (ap device_in same) in subst (λ x. Contains (e ∷ devices_in cs) x) one (in_head e (devices_in cs))
  | inr later ↦ in_tail e (devices_in cs) d (in_devices cs line d later)
]
in_devices (call_at l c ∷ cs) line d h = elim (in_cons (call_at l c) cs (dev_at line d) h) [
  | inl same ↦ absurd cc
  | inr later ↦ in_devices cs line d later
]

-- what is found passes the test
find_true : (p : Sub → Bool) (xs : List Sub) (x : Sub) → find p xs ≡ Some x → p x ≡ true
find_true p [] x e = absurd cc
find_true p (y ∷ ys) x e = go (p y) refl e (find_true p ys x) where
  go : (b : Bool) → p y ≡ b → cond b (Some y) (find p ys) ≡ Some x → (find p ys ≡ Some x → p x ≡ true) → p x ≡ true
  go true on e ih = ap p (sym (some_is y x e)) ∙ on
  go false off e ih = ih e

-- a cell's card is of a known type
card_known : (flat : Flat) (library : Library) (keep : List (List ℕ)) (cell : Sub) → Contains library.deck.subs cell → (b : Body) → Contains cell.cards b → FindsSubWithin library.deck.subs cell.head.name b → IsOfKnownType (run_of flat library keep) b
card_known flat library keep cell inside (dev_at line d) at finds =
    let s = (run_of flat library keep).source in
    let all = map (type_in s) (s.devices ++ flat_map (λ cards. cards) s.cells) in
    let among : Contains (s.devices ++ flat_map (λ cards. cards) s.cells) d = Contains-append_right s.devices (flat_map (λ cards. cards) s.cells) d
    (in_flat_map (λ (cards : List Card). cards) s.cells (devices_in cell.cards) d (in_map (λ (t : Sub). devices_in t.cards) library.deck.subs cell inside) (in_devices cell.cards line d at)) in
    let once = subst (λ ts. Contains ts (type_in s d)) (sym (types_are.once_is all)) (in_once same_type types_are.exact types_are.itself all (type_in s d) (in_map (type_in s) (s.devices ++ flat_map (λ cards. cards) s.cells) d among)) in
    Contains-append_left (types_of s) (map cell_type library.deck.subs) (type_in s d) once
card_known flat library keep cell inside (call_at line c) at finds =
    let s = (run_of flat library keep).source in
    let test : Sub → Bool = λ t. same_text t.head.name c.sub in
    let name = exact finds.0.head.name c.sub (find_true test library.deck.subs finds.0 finds.1.found) in
    let there = in_map cell_type library.deck.subs finds.0 (find_in test library.deck.subs finds.0 finds.1.found) in
    let type-is : cell_type finds.0 ≡ of_cell c.sub (port_classes (length c.nodes)) = ap (λ n. of_cell n (port_classes (length finds.0.head.ports))) name ∙ ap (λ n. of_cell c.sub (port_classes n)) (sym finds.1.as_many) in
    Contains-append_right (types_of s) (map cell_type library.deck.subs) (of_cell c.sub (port_classes (length c.nodes))) (subst (λ t. Contains (map cell_type library.deck.subs) t) type-is there)

-- all cards of a cell
pub cell_known : (flat : Flat) (library : Library) (keep : List (List ℕ)) → IsReadDeck library.deck → (cell : Sub) → Contains library.deck.subs cell → AllByRecursion (IsOfKnownType (run_of flat library keep)) cell.cards
cell_known flat library keep read cell inside =
    let r = in_each (IsReadSub library.deck.subs) library.deck.subs cell read.subs inside in
    each_in (IsOfKnownType (run_of flat library keep)) cell.cards (λ b at. card_known flat library keep cell inside b at (in_each (FindsSubWithin library.deck.subs cell.head.name) cell.cards b r.calls at))

-- ---- searched cells

-- a searched cell is one of the library
searched_in : (run : Run) (level : ℕ) (cell : Sub) → Contains (searched_at run level) cell → Contains run.library.deck.subs cell
searched_in run level cell h =
    let r = from_map (λ (c : Sub × Cell). c.0) (filter (λ (c : Sub × Cell). is_searched c.1.skip) (cells_at level run.library)) cell h in
    let inner = (from_filter (λ (c : Sub × Cell). is_searched c.1.skip) (cells_at level run.library) r.0 r.1).0 in
    let outer = (from_filter (λ (c : Sub × Cell). eqb c.1.level level) (zip run.library.deck.subs run.library.cells) r.0 inner).0 in
    subst (λ x. Contains run.library.deck.subs x) r.2 (left_in run.library.deck.subs run.library.cells r.0 outer)

-- ---- the history

-- where no device and no composite is told of twice, no two devices of the last circuit come from one
slots_differ : (run : Run) (h : History) → DevicesOnce run h → CompositesOnce h → AllByRecursion (Holds run h.last.composites) h.last.slots
    → (i j : ℕ) (t u : Slot) → slice_get h.last.slots i ≡ Some t → slice_get h.last.slots j ≡ Some u → t.origin ≡ u.origin → i ≡ j
slots_differ run h devices composites holds i j t u et eu same = by t.origin refl (at_each (Holds run h.last.composites) h.last.slots i t holds et).suits where
  stands : (k : ℕ) (v : Slot) (d : Origin) → slice_get h.last.slots k ≡ Some v → slice_index_or (all_origins h) k d ≡ v.origin
  stands k v d e =
      let at : slice_get (all_origins h) k ≡ Some v.origin = get_left (map (λ (s : Slot). s.origin) h.last.slots) _ k v.origin (to_mapped (λ (s : Slot). s.origin) h.last.slots k v e) in
      get_or_from_slice_get (all_origins h) k v.origin d at

  by : (o : Origin) → t.origin ≡ o → SuitsOrigin run.source.devices h.last.composites t.device.nets t.origin → i ≡ j
  by (base dev) is suits =
      let lt : dev < length run.source.devices = subst (SuitsOrigin run.source.devices h.last.composites t.device.nets) is suits in
      (devices dev lt).1 i j (stands i t (made 0) et ∙ is) (stands j u (made 0) eu ∙ sym same ∙ is)
  by (made number) is suits =
      let m = subst (SuitsOrigin run.source.devices h.last.composites t.device.nets) is suits in
      let place = slice_get_within h.last.composites m.place m.composite m.stands in
      composites number (omega (arith, m.number_is)) (omega (arith, m.number_is, place)) i j (stands i t (base 0) et ∙ is) (stands j u (base 0) eu ∙ sym same ∙ is)

-- all parts of a lawful history
pub history_suits : (flat : Flat) (library : Library) (keep : List (List ℕ)) (h : History) → IsReadDeck library.deck → (0 < length h.last.composites → 0 < length (nets_of (cards_of flat))) → IsLawful (run_of flat library keep) h → DevicesOnce (run_of flat library keep) h → CompositesOnce h
    → length h.last.composites + 3 ≤ 2 ^ 64 → HasSuited (run_of flat library keep).source flat library h
history_suits flat library keep h read some lawful devices composites few =
    let run = run_of flat library keep in
    let last : StageHolds run library.deck.subs h.last = rounds_hold run library.deck.subs refl (cell_known flat library keep read) (searched_in run) 0 (first_stage run) h.rounds h.last some (first_holds run library.deck.subs) lawful.follow in
    record {
      composites = last.composites;
      slots = each_to (Holds run h.last.composites) (λ (t : Slot). SuitsOrigin (cards_of flat) h.last.composites t.device.nets t.origin) (λ t g. g.suits) h.last.slots last.slots;
      apart = slots_differ run h devices composites last.slots;
      few = few;
    }
