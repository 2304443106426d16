-- What is made of a sound source and a library of whole cells: the circuit and the patterns have no fault and few enough parts.
use Rattle.std.proofs.Common.{◌≡◌, ◌+◌, ◌<◌, ◌≤◌, ℕ, List, [], ◌∷◌, ◌++◌, true, length, get_or, map, eqb, None, refl, sym, ap, ◌∙◌, subst, arith, length-append}
use Rattle.std.specs.Prelude.{Contains, All, filter_map, flat_map, position}
use Rattle.std.specs.List.{AllByRecursion, list_any}
use Rattle.std.proofs.lemmas.Bool.{ne_eqb}
use Rattle.std.proofs.lemmas.List.{length-map}
use Rattle.std.proofs.lemmas.List.FromFn.{length-range_with_len}
use Rattle.std.proofs.lemmas.List.Elements.{All-from_recursion, recursion_from_All, Contains-get_or, Contains-append_left, Contains-append_right}
use Rattle.gl_lists.proofs.Each.{each_both, each_from}
use Rattle.gl_lists.proofs.EachOnce.{found, there}
use Rattle.gl_lists.proofs.Membership.{in_head, in_tail, in_map, in_flat_map}
use Rattle.gl_text.specs.LogicalLines.{same_text}
use Rattle.gl_text.specs.Cards.{Device as Card, IsDeviceCard}
use Rattle.gl_text.specs.Decks.{Body, dev_at, call_at, Sub, once}
use Rattle.gl_text.specs.Flattening.{Flat}
use Rattle.gl_text.specs.CellCards.{devices_in}
use Rattle.gl_text.proofs.Names as text_names
use Rattle.gl_printed.specs.ReadDecks.{FindsSub}
use Rattle.gl_match.specs.Graph.{Device}
use Rattle.gl_graph.specs.declared.fault.BuildFault.TheVariants.{NoDevice}
use Rattle.gl_graph.specs.Built.{circuit_size, pattern_size}
use Rattle.gl_graph.specs.Faults.{first_in, device_fault, circuit_fault, pattern_fault}
use Rattle.gl_base.specs.Rails.{all_rails}
use Rattle.gl_base.specs.TypeNames.{same_type, word_of, classes_of}
use Rattle.gl_base.specs.BaseCircuit.{Source, nets_of, net_number, types_of, type_in, device_of}
use Rattle.gl_base.specs.Patterns.{role_of}
use Rattle.gl_base.specs.Libraries.{PORTS, Library, nodes_of}
use Rattle.gl_base.specs.Rounds.{cards_of, source_of}
use Rattle.gl_base.proofs.KeepLaws.{few_pinned}
use Rattle.gl_base.proofs.TextLaws as text
use Rattle.gl_base.proofs.TypeLaws as types_are
use Rattle.gl_lifting.specs.Runs.{Run, card_type, cell_type, run_types, card_device, cell_nets, pattern_in, first_circuit}
use Rattle.gl_lib.specs.Sources.{IsWhole, AreSound}
use Rattle.gl_lib.specs.Numbered.{AreNets, IsAmong, HasType, IsNumbered}
use Rattle.gl_lib.proofs.CardLaws.{type_places, shape_of_number, number_of_type, numbers_below}
use Rattle.gl_lib.proofs.CircuitLaws.{type_is_there, rails_apart, places_of_cards, few_nets}
use Rattle.gl_lib.proofs.FaultLaws.{neither_fault, no_fault, device_sound}
use Rattle.gl_lib.proofs.PatternLaws.{placed, roles_sound, ports_sound, ports_are_nets}
use Rattle.gl_lib.proofs.PinLaws.{pins_sound}
use Rattle.gl_lib.proofs.RunSizes.{nodes_are, places_of_bodies, cards_in_size, few_run_types}
use Rattle.gl_lib.proofs.RunTypes.{front_number, call_type, find_there}
use Rattle.gl_lib.proofs.ShapeLaws.{shapes_sound, shapes_short}

-- a device card has the nodes that its letter demands
abbrev pub IsDeviceBody : Body → Type 0
IsDeviceBody (dev_at line d) = IsDeviceCard d
IsDeviceBody (call_at line c) = Unit {0}

-- a run of a flat deck and a library, in whose circuit these names pin nets
abbrev pub pinning : Flat → Library → List (List ℕ) → Run
pinning f library pins = record { source = record (source_of f library) { pinned = pins }; library = library }

-- ---- one card

-- the run has the type of a card
pub type_there : (run : Run) (b : Body) → HasType run b → list_any (same_type (card_type run.source b)) (run_types run) ≡ true
type_there run (dev_at line d) h =
    let t = type_in run.source d in
    found same_type types_are.exact types_are.itself (run_types run) t (Contains-append_left (types_of run.source) (map cell_type run.library.deck.subs) t (there same_type types_are.exact types_are.itself (types_of run.source) t h))
type_there run (call_at line c) h =
    let subs = run.library.deck.subs in
    let at = Contains-append_right (types_of run.source) (map cell_type subs) (cell_type h.0) (in_map cell_type subs h.0 (find_there subs c.sub h.0 h.1.found)) in
    found same_type types_are.exact types_are.itself (run_types run) (card_type run.source (call_at line c)) (subst (λ t. Contains (run_types run) t) (call_type subs c h.0 h.1) at)

-- a card has as many nodes as its type has places
card_places : (s : Source) (b : Body) → IsDeviceBody b → length (classes_of (card_type s b)) ≡ length (nodes_of b)
card_places s (dev_at line d) is = type_places (word_of (s.deck_models ++ s.library_models)) d is
card_places s (call_at line c) is = length-range_with_len 0 (length c.nodes)

-- a numbered card is a device without a fault
card_sound : (run : Run) (nets : List (List ℕ)) (n : ℕ) (b : Body) → IsDeviceBody b → IsNumbered run nets b → device_fault (map classes_of (run_types run)) (length nets) n (card_device run nets b) ≡ None
card_sound run nets n b is numbered =
    let t = card_type run.source b in
    let types = run_types run in
    let known = type_there run b numbered.kind in
    device_sound (map classes_of types) (length nets) n (card_device run nets b)
    (number_of_type types t known)
    (length-map (nodes_of b) (net_number nets) ∙ sym (card_places run.source b is) ∙ ap length (sym (shape_of_number types t known)))
    (numbers_below nets (nodes_of b) numbered.nodes)

-- numbered cards are devices without a fault
cards_sound : (run : Run) (nets : List (List ℕ)) (n : ℕ) (bs : List Body) → AllByRecursion IsDeviceBody bs → AllByRecursion (IsNumbered run nets) bs → first_in (device_fault (map classes_of (run_types run)) (length nets)) n (map (card_device run nets) bs) ≡ None
cards_sound run nets n [] is numbered = refl
cards_sound run nets n (b ∷ bs) is numbered = neither_fault _ _ (card_sound run nets n b is.0 numbered.0) (cards_sound run nets (n + 1) bs is.1 numbered.1)

-- ---- the cards of a list

-- the nets of cards are those on them
nodes_there : (bs : List Body) → AllByRecursion (λ b. AreNets (once (flat_map nodes_of bs)) (nodes_of b)) bs
nodes_there bs = each_from (λ b. AreNets (once (flat_map nodes_of bs)) (nodes_of b)) bs (λ b at k d lt.
    let name = get_or (nodes_of b) k d in
    text_names.is_there name (once (flat_map nodes_of bs)) (text.names_stay (flat_map nodes_of bs) name (in_flat_map nodes_of bs b name at (Contains-get_or (nodes_of b) k d lt))))

-- device cards among the run's devices, and X cards that find cells, have types
types_there : (run : Run) (bs : List Body) → ((d : Card) → Contains (devices_in bs) d → Contains (run.source.devices ++ flat_map (λ cards. cards) run.source.cells) d) → AllByRecursion (FindsSub run.library.deck.subs) bs → AllByRecursion (HasType run) bs
types_there run [] within finds = tt
types_there run (dev_at line d ∷ bs) within finds = (
  type_is_there (type_in run.source) (run.source.devices ++ flat_map (λ cards. cards) run.source.cells) d (within d (in_head d (devices_in bs))),
  types_there run bs (λ e at. within e (in_tail d (devices_in bs) e at)) finds.1,
)
types_there run (call_at line c ∷ bs) within finds = (finds.0, types_there run bs within finds.1)

all_numbered : (run : Run) (bs : List Body) → ((d : Card) → Contains (devices_in bs) d → Contains (run.source.devices ++ flat_map (λ cards. cards) run.source.cells) d) → AllByRecursion (FindsSub run.library.deck.subs) bs → AllByRecursion (IsNumbered run (once (flat_map nodes_of bs))) bs
all_numbered run bs within finds =
    let nets = once (flat_map nodes_of bs) in
    each_both (HasType run) (λ b. AreNets nets (nodes_of b)) (IsNumbered run nets) (λ b kind nodes. record { kind = kind; nodes = nodes }) bs (types_there run bs within finds) (nodes_there bs)

devices_good : (bs : List Body) → AllByRecursion IsDeviceCard (devices_in bs) → AllByRecursion IsDeviceBody bs
devices_good [] h = tt
devices_good (dev_at line d ∷ bs) h = (h.0, devices_good bs h.1)
devices_good (call_at line c ∷ bs) h = (tt, devices_good bs h)

-- ---- cards of devices alone

-- devices as cards of a cell
abbrev pub as_bodies : List Card → List Body
as_bodies cards = map (λ d. dev_at 0 d) cards

bodies_nodes : (cards : List Card) → flat_map nodes_of (as_bodies cards) ≡ flat_map (λ (d : Card). d.nodes) cards
bodies_nodes [] = refl
bodies_nodes (d ∷ ds) = ap (λ ns. d.nodes ++ ns) (bodies_nodes ds)

bodies_devices : (cards : List Card) → devices_in (as_bodies cards) ≡ cards
bodies_devices [] = refl
bodies_devices (d ∷ ds) = ap (λ cs. d ∷ cs) (bodies_devices ds)

bodies_find : (subs : List Sub) (cards : List Card) → AllByRecursion (FindsSub subs) (as_bodies cards)
bodies_find subs [] = tt
bodies_find subs (d ∷ ds) = (tt, bodies_find subs ds)

-- a device of the circuit has the number of its type among all types
device_is : (run : Run) (nets : List (List ℕ)) (d : Card) → IsAmong run.source d → device_of run.source nets d ≡ card_device run nets (dev_at 0 d)
device_is run nets d h = ap (λ (kind : ℕ). made kind (map (net_number nets) d.nodes)) (sym (front_number (types_of run.source) (map cell_type run.library.deck.subs) (type_in run.source d) h)) where
  made : ℕ → List ℕ → Device
  made kind nets = record { kind = kind; nets = nets }

devices_are : (run : Run) (nets : List (List ℕ)) (cards : List Card) → AllByRecursion (IsAmong run.source) cards → map (device_of run.source nets) cards ≡ map (card_device run nets) (as_bodies cards)
devices_are run nets [] h = refl
devices_are run nets (d ∷ ds) h = λ i. device_is run nets d h.0 i ∷ devices_are run nets ds h.1 i

-- ---- a run

module _ (f : Flat) (library : Library) (is : AreSound f library) (pins : List (List ℕ)) where
  abbrev run : Run
  run = pinning f library pins

  few_ports : AllByRecursion (λ (t : Sub). length t.head.ports ≤ PORTS) library.deck.subs
  few_ports = recursion_from_All (λ (t : Sub). length t.head.ports ≤ PORTS) library.deck.subs is.cells.ports

  -- ---- the circuit

  deck_within : (d : Card) → Contains (cards_of f) d → Contains (run.source.devices ++ flat_map (λ cards. cards) run.source.cells) d
  deck_within d h = Contains-append_left (cards_of f) (flat_map (λ cards. cards) run.source.cells) d h

  deck_among : AllByRecursion (IsAmong run.source) (cards_of f)
  deck_among = each_from (IsAmong run.source) (cards_of f) (λ d at. type_is_there (type_in run.source) (run.source.devices ++ flat_map (λ cards. cards) run.source.cells) d (deck_within d at))

  deck_numbered : AllByRecursion (IsNumbered run (nets_of (cards_of f))) (as_bodies (cards_of f))
  deck_numbered =
      let bs = as_bodies (cards_of f) in
      subst (λ ns. AllByRecursion (IsNumbered run (once ns)) bs) (bodies_nodes (cards_of f))
      (all_numbered run bs (λ d at. deck_within d (subst (λ (cs : List Card). Contains cs d) (bodies_devices (cards_of f)) at)) (bodies_find library.deck.subs (cards_of f)))

  deck_devices : AllByRecursion IsDeviceBody (as_bodies (cards_of f))
  deck_devices = devices_good (as_bodies (cards_of f)) (subst (AllByRecursion IsDeviceCard) (sym (bodies_devices (cards_of f))) (recursion_from_All IsDeviceCard (cards_of f) is.source.deck_cards))

  -- the circuit is not refused
  pub circuit_sound : circuit_fault (first_circuit run) ≡ None
  circuit_sound =
      let s = run.source in
      let nets = nets_of (cards_of f) in
      let shapes = map classes_of (run_types run) in
      neither_fault _ _ (shapes_sound run few_ports)
      (neither_fault _ _ (ap (first_in (device_fault shapes (length nets)) 0) (devices_are run nets (cards_of f) deck_among) ∙ cards_sound run nets 0 (as_bodies (cards_of f)) deck_devices deck_numbered)
      (neither_fault _ _ (rails_apart nets (all_rails s.rails) (text.rails_once s.rails is.source.rails_differ)) (pins_sound nets (once pins))))

  -- there are few shapes
  few_shapes : length (map classes_of (run_types run)) ≤ 201326592
  few_shapes =
      let all = length-map (run_types run) classes_of in
      let both = length-append (types_of run.source) (map cell_type library.deck.subs) in
      let cells = length-map library.deck.subs cell_type in
      omega (arith, all, both, cells, few_run_types f library is)

  -- the circuit has few enough parts
  pub circuit_small : circuit_size (first_circuit run) < 4294967295
  circuit_small =
      let s = run.source in
      let nets = nets_of s.devices in
      let parts = length-map s.devices (device_of s nets) in
      let places = places_of_cards (type_in s) (types_of s) nets s.devices in
      let stands = length-map (all_rails s.rails) (λ rail. position (same_text rail) nets) in
      let pinned : length (filter_map (λ name. position (same_text name) nets) (once s.pinned)) ≤ length nets = few_pinned s in
      omega (arith, few_shapes, parts, places, stands, pinned, few_nets s.devices, is.source.deck_places, is.source.few_rails)

  -- its shapes have few places
  pub shapes_small : All (λ classes. length classes < 4294967296) (map classes_of (run_types run))
  shapes_small = shapes_short run few_ports

  -- ---- a cell

  module _ (cell : Sub) (inside : Contains library.deck.subs cell) (whole : IsWhole library.deck.subs cell) where
    cell_within : (d : Card) → Contains (devices_in cell.cards) d → Contains (run.source.devices ++ flat_map (λ cards. cards) run.source.cells) d
    cell_within d h =
        let cells = map (λ (s : Sub). devices_in s.cards) library.deck.subs in
        Contains-append_right (cards_of f) (flat_map (λ cards. cards) cells) d (in_flat_map (λ cards. cards) cells (devices_in cell.cards) d (in_map (λ (s : Sub). devices_in s.cards) library.deck.subs cell inside) h)

    numbered : AllByRecursion (IsNumbered run (cell_nets cell)) cell.cards
    numbered = all_numbered run cell.cards cell_within whole.calls

    -- the cell's cards have numbers
    pub cell_numbered : All (IsNumbered run (cell_nets cell)) cell.cards
    cell_numbered = All-from_recursion (IsNumbered run (cell_nets cell)) cell.cards numbered

    -- each port is a net
    pub ports_there : (port : List ℕ) → Contains cell.head.ports port → Contains (cell_nets cell) port
    ports_there = ports_are_nets cell.cards cell.head.ports whole.searched.ports_stand

    -- the cell has few nodes
    pub nodes_few : length (flat_map nodes_of cell.cards) ≤ 67108864
    nodes_few = omega (arith, nodes_are cell.cards, cards_in_size library.deck.subs cell inside, is.cells.small)

    -- and few ports
    pub ports_few : length cell.head.ports ≤ 67108864
    ports_few = omega (arith, cards_in_size library.deck.subs cell inside, is.cells.small)

    -- the pattern is not refused
    pub pattern_sound : pattern_fault (map classes_of (run_types run)) (length (all_rails run.source.rails)) (pattern_in run cell) ≡ None
    pattern_sound =
        let nets = cell_nets cell in
        let rails = run.source.rails in
        let ports = cell.head.ports in
        let parts = map (card_device run nets) cell.cards in
        let roles = length-map nets (role_of rails ports) in
        let stand = ports_there in
        let once_nets = text.each_once (flat_map nodes_of cell.cards) in
        let good = devices_good cell.cards (recursion_from_All IsDeviceCard (devices_in cell.cards) whole.searched.devices) in
        neither_fault _ _ (ap (λ count. first_in (device_fault (map classes_of (run_types run)) count) 0 parts) roles ∙ cards_sound run nets 0 cell.cards good numbered)
        (neither_fault _ _ (roles_sound (all_rails rails) ports nets once_nets stand parts (placed run cell.cards))
        (neither_fault _ _ (ports_sound (all_rails rails) ports nets once_nets stand (length (map (role_of rails ports) nets)) roles (text.once_from ports whole.searched.ports_differ))
        (no_fault (eqb (length parts) 0) NoDevice (ne_eqb (length parts) 0 (λ e. omega (arith, e, length-map cell.cards (card_device run nets), whole.searched.some))))))

    -- the pattern has few enough parts
    pub pattern_few : length (map classes_of (run_types run)) + length (all_rails run.source.rails) + pattern_size (pattern_in run cell) < 4294967295
    pattern_few =
        let nets = cell_nets cell in
        let parts = length-map cell.cards (card_device run nets) in
        let places = places_of_bodies run nets cell.cards in
        let roles = length-map nets (role_of run.source.rails cell.head.ports) in
        let ports = length-map cell.head.ports (net_number nets) in
        let fewer = text.names_fewer (flat_map nodes_of cell.cards) in
        omega (arith, few_shapes, parts, places, roles, ports, fewer, nodes_are cell.cards, cards_in_size library.deck.subs cell inside, is.cells.small, is.source.few_rails)
