-- The circuit of a deck has no fault, and few enough parts.
use Rattle.std.proofs.Common.{◌≡◌, ◌+◌, ◌<◌, ◌≤◌, ℕ, List, [], ◌∷◌, length, get_or, map, take, true, false, ltb, Option, None, Some, refl, sym, ap, ◌∙◌, subst, arith}
use Rattle.std.specs.Prelude.{not, Contains, flat_map, position}
use Rattle.std.specs.List.{list_any}
use Rattle.std.proofs.lemmas.Bool.{or_from, not_from_true, lt-ltb, eqb-true, false_from_ne_true}
use Rattle.std.proofs.lemmas.List.{length-map, get_or-take, length-take}
use Rattle.std.proofs.lemmas.List.Folds.{list_any_none}
use Rattle.std.proofs.lemmas.List.Sums.{sum_by-cons}
use Rattle.gl_match.proofs.Lists.{Once, get_map, in_map}
use Rattle.gl_text.specs.LogicalLines.{same_text}
use Rattle.gl_text.specs.Cards.{Device as Card}
use Rattle.gl_text.specs.CellCards.{places_count}
use Rattle.gl_match.specs.Graph.{Device, is_some_at}
use Rattle.gl_graph.specs.declared.fault.BuildFault.TheVariants.{BadRail}
use Rattle.gl_graph.specs.Built.{count_places}
use Rattle.gl_graph.specs.Faults.{first_in, rail_fault, is_bad_rail}
use Rattle.gl_base.specs.TypeNames.{TypeName, same_type, classes_of, each_once}
use Rattle.gl_base.specs.BaseCircuit.{nets_of, net_number, device_by}
use Rattle.gl_base.proofs.OnceLaws.{found, in_once, length_once, once_apart, position_back}
use Rattle.gl_base.proofs.TextLaws as text
use Rattle.gl_base.proofs.TypeLaws as kinds_are
use Rattle.gl_lib.proofs.FaultLaws.{no_fault, none_from_start}
use Rattle.gl_lib.proofs.InsertLaws.{places_are}

-- the type of each of the cards is among the types
pub type_is_there : (type : Card → TypeName) (all : List Card) (card : Card) → Contains all card → list_any (same_type (type card)) (each_once (map type all)) ≡ true
type_is_there type all card h =
    let types = map type all in
    let there : Contains (each_once types) (type card) = subst (λ ts. Contains ts (type card)) (sym (kinds_are.once_is types)) (in_once same_type kinds_are.exact kinds_are.itself types (type card) (in_map type all card h)) in
    found same_type kinds_are.exact kinds_are.itself (each_once types) (type card) there

some_at : (net : ℕ) (v : Option ℕ) → is_some_at net v ≡ true → v ≡ Some net
some_at net None e = absurd cc
some_at net (Some m) e = ap Some (eqb-true m net e)

-- the nets of rails that differ differ
pub rails_apart : (nets rails : List (List ℕ)) → Once rails → first_in (rail_fault (length nets) (map (λ rail. position (same_text rail) nets) rails)) 0 (map (λ rail. position (same_text rail) nets) rails) ≡ None
rails_apart nets rails once =
    let find : List ℕ → Option ℕ = λ rail. position (same_text rail) nets in
    let stands = map find rails in
    none_from_start (rail_fault (length nets) stands) stands (λ k d lt.
    let within : k < length rails = omega (arith, lt, length-map rails find) in
    let here : get_or stands k d ≡ find (get_or rails k []) = get_map find rails k [] d within in
    no_fault (is_bad_rail (length nets) stands k (get_or stands k d)) (BadRail k) (sound k within (get_or stands k d) here))
  where
    sound : (k : ℕ) → k < length rails → (v : Option ℕ) → v ≡ position (same_text (get_or rails k [])) nets → is_bad_rail (length nets) (map (λ rail. position (same_text rail) nets) rails) k v ≡ false
    sound k within None e = refl
    sound k within (Some net) e =
        let find : List ℕ → Option ℕ = λ rail. position (same_text rail) nets in
        let stands = map find rails in
        let mine = position_back same_text text.exact text.itself nets (get_or rails k []) [] net (sym e) in
        or_from (not (ltb net (length nets))) (list_any (is_some_at net) (take k stands))
        (not_from_true (ltb net (length nets)) (lt-ltb net (length nets) mine.0))
        (list_any_none (is_some_at net) (take k stands) (λ j d lt.
        let below : j < k = omega (arith, lt, length-take k stands) in
        let read : get_or (take k stands) j d ≡ find (get_or rails j []) = get_or-take k stands j d below ∙ get_map find rails j [] d (omega (arith, below, within)) in
        false_from_ne_true (is_some_at net (get_or (take k stands) j d)) (λ t.
        let its : find (get_or rails j []) ≡ Some net = sym read ∙ some_at net (get_or (take k stands) j d) t in
        let other = position_back same_text text.exact text.itself nets (get_or rails j []) [] net its in
        once_apart rails [] j k once below within (sym other.1 ∙ mine.1))))

-- the places of the devices of cards
pub places_of_cards : (type : Card → TypeName) (types : List TypeName) (nets : List (List ℕ)) (cards : List Card) → count_places (map (device_by type types nets) cards) + length cards ≡ places_count cards
places_of_cards type types nets [] = refl
places_of_cards type types nets (c ∷ cs) =
    let here = sum_by-cons (λ (d : Device). length d.nets) (device_by type types nets c) (map (device_by type types nets) cs) in
    let there = sum_by-cons (λ (d : Card). length d.nodes + 1) c cs in
    let same = length-map c.nodes (net_number nets) in
    omega (arith, here, there, same, places_of_cards type types nets cs)

-- there are at most as many nets as places
pub few_nets : (cards : List Card) → length (nets_of cards) + length cards ≤ places_count cards
few_nets cards = omega (arith, places_are cards, text.names_fewer (flat_map (λ (d : Card). d.nodes) cards))

-- there are at most as many types as cards
pub few_types : (type : Card → TypeName) (all : List Card) → length (map classes_of (each_once (map type all))) ≤ length all
few_types type all =
    let same = ap length (kinds_are.once_is (map type all)) in
    omega (arith, length-map (each_once (map type all)) classes_of, same, length_once same_type (map type all), length-map all type)
