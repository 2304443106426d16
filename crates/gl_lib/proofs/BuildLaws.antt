-- What the tables give is the first circuit of a run and the patterns of its cells, and want of memory alone refuses it.
use Rattle.std.proofs.Common.{◌≡◌, ◌+◌, ◌<◌, ℕ, List, [], ◌++◌, length, get_or, map, flat_map, Option, None, Some, true, false, sym, ap, ◌∙◌, subst, arith, inl, inr}
use Rattle.std.specs.Prelude.{Contains, ◌⊎◌, All, position}
use Rattle.std.specs.List.{list_any}
use Rattle.std.proofs.lemmas.List.Elements.{Contains-get_or}
use Rattle.gl_text.specs.LogicalLines.{same_text}
use Rattle.gl_text.specs.Cards.{Device as Card}
use Rattle.gl_text.specs.Decks.{Body, Sub, once, has_twice}
use Rattle.gl_text.specs.Flattening.{Flat, top_ports}
use Rattle.gl_match.specs.declared.role.Role.{Role}
use Rattle.gl_match.specs.Graph.{Circuit, Pattern, Device}
use Rattle.gl_graph.specs.declared.fault.BuildFault.{BuildFault}
use Rattle.gl_graph.specs.declared.fault.BuildFault.TheVariants.{Memory}
use Rattle.gl_graph.specs.Built.{circuit_size, pattern_size, circuit_of as circuit_given, pattern_of as pattern_given}
use Rattle.gl_graph.specs.Faults.{circuit_fault, pattern_fault}
use Rattle.gl_base.specs.Rails.{all_rails}
use Rattle.gl_base.specs.TypeNames.{TypeName, same_type, type_by, word_of, classes_of}
use Rattle.gl_base.specs.BaseCircuit.{Source, nets_of, net_number, type_number, types_of, type_in, device_of}
use Rattle.gl_base.specs.Patterns.{role_of, role_by}
use Rattle.gl_base.specs.Libraries.{Library, nodes_of}
use Rattle.gl_base.specs.Rounds.{cards_of, source_of}
use Rattle.gl_base.proofs.OnceLaws.{found, once_kept}
use Rattle.gl_base.proofs.TextLaws as text
use Rattle.gl_flat.specs.Kept.{KeptDevice, kept_device}
use Rattle.gl_lifting.specs.Runs.{Run, run_of, run_types, cell_type, cell_nets, card_device, pattern_in, first_circuit}
use Rattle.gl_lib.specs.Sources.{device_of_flat, AreSound, IsWhole}
use Rattle.gl_lib.specs.Numbered.{AreNets, IsAmong, IsAmongTypes}
use Rattle.gl_lib.proofs.FlatLaws.{kept_parts}
use Rattle.gl_lib.proofs.RunTypes.{front_number}
use Rattle.gl_lib.proofs.SoundLaws.{pinning, circuit_sound, circuit_small, pattern_sound, pattern_few, ports_there}

-- where there is no refusal, a fault is want of memory
pub only_memory : (refusal : Option BuildFault) (fault : BuildFault) → refusal ≡ None → (fault ≡ Memory) ⊎ (refusal ≡ Some fault) → fault ≡ Memory
only_memory refusal fault none (inl memory) = memory
only_memory refusal fault none (inr some) = absurd cc

-- ---- types by the tables

-- the type of a device, where the words are those of the models
pub type_same : (s : Source) (words : List ℕ → Option (List ℕ)) → ((name : List ℕ) → words name ≡ word_of (s.deck_models ++ s.library_models) name) → (d : Card) → type_by words d ≡ type_in s d
type_same s words words_are d = λ i. type_by (λ name. words_are name i) d

-- it is among the types of the tables
pub known_by_tables : (s : Source) (words : List ℕ → Option (List ℕ)) (kinds : List TypeName) (d : Card) (t : TypeName) → ((name : List ℕ) → words name ≡ word_of (s.deck_models ++ s.library_models) name) → kinds ≡ types_of s → t ≡ type_by words d → IsAmong s d → list_any (same_type t) kinds ≡ true
known_by_tables s words kinds d t words_are kinds_are t_is h =
    (λ i. list_any (same_type ((t_is ∙ type_same s words words_are d) i)) (kinds_are i)) ∙ h

-- and its number there is that among all types
pub kind_by_tables : (run : Run) (words : List ℕ → Option (List ℕ)) (kinds : List TypeName) (d : Card) (t : TypeName) (kind : ℕ) → ((name : List ℕ) → words name ≡ word_of (run.source.deck_models ++ run.source.library_models) name) → kinds ≡ types_of run.source → t ≡ type_by words d → IsAmong run.source d
    → kind ≡ type_number kinds t → kind ≡ type_number (run_types run) (type_in run.source d)
kind_by_tables run words kinds d t kind words_are kinds_are t_is h kind_is =
    kind_is
    ∙ (λ i. type_number (kinds_are i) ((t_is ∙ type_same run.source words words_are d) i))
    ∙ sym (front_number (types_of run.source) (map cell_type run.library.deck.subs) (type_in run.source d) h)

-- the types of flat devices have numbers in the tables
pub flat_by_tables : (s : Source) (words : List ℕ → Option (List ℕ)) (kinds : List TypeName) → ((name : List ℕ) → words name ≡ word_of (s.deck_models ++ s.library_models) name) → kinds ≡ types_of s
    → (devices : List KeptDevice) → All (IsAmongTypes (type_in s) (types_of s)) devices → All (IsAmongTypes (type_by words) kinds) devices
flat_by_tables s words kinds words_are kinds_are devices h =
    let words_same : words ≡ word_of (s.deck_models ++ s.library_models) = λ i name. words_are name i in
    subst (λ ks. All (IsAmongTypes (type_by words) ks) devices) (sym kinds_are)
    (subst (λ ws. All (IsAmongTypes (type_by ws) (types_of s)) devices) (sym words_same) h)

-- ---- a pattern

-- what is given for a pattern
pub pattern_is : (run : Run) (cell : Sub) (nets ports port_names net_items all : List (List ℕ)) (bs : List Body) (parts : List Device) (roles : List Role) (numbers : List ℕ)
    → bs ≡ cell.cards → nets ≡ once (flat_map nodes_of bs) → ports ≡ once port_names → port_names ≡ cell.head.ports → has_twice cell.head.ports ≡ false → net_items ≡ nets → all ≡ all_rails run.source.rails
    → parts ≡ map (card_device run nets) bs → roles ≡ map (λ net. role_by (position (same_text net) all) (position (same_text net) ports)) net_items → numbers ≡ map (net_number nets) port_names
    → pattern_given parts roles numbers ≡ pattern_in run cell
pattern_is run cell nets ports port_names net_items all bs parts roles numbers bs_are e ports_are names_are differ items_are all_are p r q =
    let nets_are : nets ≡ cell_nets cell = e ∙ ap (λ (cards : List Body). once (flat_map nodes_of cards)) bs_are in
    let parts_are : parts ≡ map (card_device run (cell_nets cell)) cell.cards = p ∙ (λ i. map (card_device run (nets_are i)) (bs_are i)) in
    let ports_stay : ports ≡ cell.head.ports = ports_are ∙ ap once names_are ∙ text.once_is cell.head.ports ∙ once_kept same_text text.exact text.itself cell.head.ports (text.once_from cell.head.ports differ) in
    let net_items_are : net_items ≡ cell_nets cell = items_are ∙ nets_are in
    let roles_are : roles ≡ map (role_of run.source.rails cell.head.ports) (cell_nets cell) = r ∙ (λ i. map (λ net. role_by (position (same_text net) (all_are i)) (position (same_text net) (ports_stay i))) (net_items_are i)) in
    let numbers_are : numbers ≡ map (net_number (cell_nets cell)) cell.head.ports = q ∙ (λ i. map (net_number (nets_are i)) (names_are i)) in
    λ i. pattern_given (parts_are i) (roles_are i) (numbers_are i)

module _ (f : Flat) (library : Library) (is : AreSound f library) (cell : Sub) (inside : Contains library.deck.subs cell) (whole : IsWhole library.deck.subs cell) where
  -- each port of the cell is a net
  pub ports_numbered : (nets names : List (List ℕ)) → nets ≡ cell_nets cell → names ≡ cell.head.ports → AreNets nets names
  ports_numbered nets names e names_are k d lt =
      let stands = ports_there f library is [] cell inside whole (get_or names k d) (subst (λ ns. Contains ns (get_or names k d)) names_are (Contains-get_or names k d lt)) in
      found same_text text.exact text.itself nets (get_or names k d) (subst (λ ns. Contains ns (get_or names k d)) (sym e) stands)

  module _ (shapes : List (List ℕ)) (count : ℕ) (shapes_are : shapes ≡ map classes_of (run_types (pinning f library (top_ports f.top)))) (count_is : count ≡ length (all_rails f.rails)) where
    abbrev run : Run
    run = pinning f library (top_ports f.top)

    pub pattern_small : (given : Pattern) → given ≡ pattern_in run cell → length shapes + count + pattern_size given < 4294967295
    pattern_small given e =
        let a : length shapes ≡ length (map classes_of (run_types run)) = ap length shapes_are in
        let b : pattern_size given ≡ pattern_size (pattern_in run cell) = ap pattern_size e in
        omega (arith, a, b, count_is, pattern_few f library is (top_ports f.top) cell inside whole)

    pub pattern_unrefused : (given : Pattern) → given ≡ pattern_in run cell → pattern_fault shapes count given ≡ None
    pattern_unrefused given e = (λ i. pattern_fault (shapes_are i) (count_is i) (e i)) ∙ pattern_sound f library is (top_ports f.top) cell inside whole

-- ---- the circuit

-- what is given for the circuit
pub circuit_is : (f : Flat) (library : Library) (keep : List (List ℕ)) (words : List ℕ → Option (List ℕ)) (kinds : List TypeName)
    → ((name : List ℕ) → words name ≡ word_of (f.models ++ library.deck.models) name) → kinds ≡ types_of (source_of f library)
    → (nets all rail_items : List (List ℕ)) (shapes : List (List ℕ)) (devices : List KeptDevice) (parts : List Device) (count : ℕ) (stands : List (Option ℕ)) (pinned : List ℕ)
    → nets ≡ nets_of (cards_of f) → rail_items ≡ all → all ≡ all_rails f.rails → shapes ≡ map classes_of (run_types (run_of f library keep)) → devices ≡ map (kept_device (nets_of (cards_of f))) (cards_of f)
    → parts ≡ map (device_of_flat (type_by words) kinds) devices → count ≡ length nets → stands ≡ map (λ rail. position (same_text rail) nets) rail_items → pinned ≡ (first_circuit (run_of f library keep)).pinned
    → circuit_given shapes parts count stands pinned ≡ first_circuit (run_of f library keep)
circuit_is f library keep words kinds words_are kinds_are nets all rail_items shapes devices parts count stands pinned nets_are items_are all_are shapes_are devices_are p n r q =
    let s = source_of f library in
    let words_same : words ≡ word_of (f.models ++ library.deck.models) = λ i name. words_are name i in
    let first : parts ≡ map (device_of_flat (type_in s) (types_of s)) (map (kept_device (nets_of s.devices)) s.devices) = p ∙ (λ i. map (device_of_flat (type_by (words_same i)) (kinds_are i)) (devices_are i)) in
    let parts_are : parts ≡ map (device_of s (nets_of s.devices)) s.devices = first ∙ kept_parts (word_of (f.models ++ library.deck.models)) (types_of s) (nets_of s.devices) s.devices in
    let count_is : count ≡ length (nets_of s.devices) = n ∙ ap length nets_are in
    let rails_are : rail_items ≡ all_rails f.rails = items_are ∙ all_are in
    let stands_are : stands ≡ map (λ rail. position (same_text rail) (nets_of s.devices)) (all_rails f.rails) = r ∙ (λ i. map (λ rail. position (same_text rail) (nets_are i)) (rails_are i)) in
    λ i. circuit_given (shapes_are i) (parts_are i) (count_is i) (stands_are i) (q i)

pub circuit_few : (f : Flat) (library : Library) → AreSound f library → (keep : List (List ℕ)) (given : Circuit) → given ≡ first_circuit (run_of f library keep) → circuit_size given < 4294967295
circuit_few f library is keep given e = subst (λ c. circuit_size c < 4294967295) (sym e) (circuit_small f library is (top_ports f.top ++ keep))

pub circuit_unrefused : (f : Flat) (library : Library) → AreSound f library → (keep : List (List ℕ)) (given : Circuit) → given ≡ first_circuit (run_of f library keep) → circuit_fault given ≡ None
circuit_unrefused f library is keep given e = ap circuit_fault e ∙ circuit_sound f library is (top_ports f.top ++ keep)
