-- How many types, nodes and ports a run has.
use Rattle.std.proofs.Common.{◌≡◌, ◌+◌, ◌<◌, ◌≤◌, ℕ, List, [], ◌∷◌, ◌++◌, length, map, flat_map, length-append, refl, ap, arith, inl, inr}
use Rattle.std.specs.Prelude.{Contains, sum_by}
use Rattle.std.proofs.lemmas.List.{length-map}
use Rattle.std.proofs.lemmas.List.Sums.{sum_by-cons}
use Rattle.gl_lists.proofs.Membership.{in_cons, in_none}
use Rattle.gl_text.specs.Decks.{Body, dev_at, call_at, Sub}
use Rattle.gl_text.specs.Flattening.{Flat}
use Rattle.gl_known.specs.Known.{body_size, sub_size}
use Rattle.gl_known.proofs.Totals.{total, total_is}
use Rattle.gl_match.specs.Graph.{Device}
use Rattle.gl_graph.specs.Built.{count_places}
use Rattle.gl_base.specs.TypeNames.{classes_of}
use Rattle.gl_base.specs.BaseCircuit.{type_in, types_of, net_number}
use Rattle.gl_base.specs.Libraries.{Library, nodes_of}
use Rattle.gl_base.specs.Rounds.{source_of}
use Rattle.gl_lifting.specs.Runs.{Run, card_device}
use Rattle.gl_lib.specs.Sources.{AreSound}
use Rattle.gl_lib.proofs.CircuitLaws.{few_types}
use Rattle.gl_lib.proofs.InsertLaws.{places_are}

-- one of some is no larger than all
pub one_of_total : {X : Type 0} (f : X → ℕ) (xs : List X) (x : X) → Contains xs x → f x ≤ total f xs
one_of_total f [] x h = absurd (in_none x h)
one_of_total f (y ∷ ys) x h = elim (in_cons y ys x h) [
  | inl here ↦ let e : f y ≡ f x = ap f here in omega (arith, e)
  | inr later ↦ omega (arith, one_of_total f ys x later)
]

-- the nodes of cards, and the cards
pub nodes_are : (bs : List Body) → length (flat_map nodes_of bs) + length bs ≡ total body_size bs
nodes_are [] = refl
nodes_are (dev_at line d ∷ bs) = let split = length-append d.nodes (flat_map nodes_of bs) in omega (arith, split, nodes_are bs)
nodes_are (call_at line c ∷ bs) = let split = length-append c.nodes (flat_map nodes_of bs) in omega (arith, split, nodes_are bs)

-- the places of cards as devices, and the cards
pub places_of_bodies : (run : Run) (nets : List (List ℕ)) (bs : List Body) → count_places (map (card_device run nets) bs) + length bs ≡ total body_size bs
places_of_bodies run nets [] = refl
places_of_bodies run nets (dev_at line d ∷ bs) =
    let here = sum_by-cons (λ (d : Device). length d.nets) (card_device run nets (dev_at line d)) (map (card_device run nets) bs) in
    omega (arith, here, length-map d.nodes (net_number nets), places_of_bodies run nets bs)
places_of_bodies run nets (call_at line c ∷ bs) =
    let here = sum_by-cons (λ (d : Device). length d.nets) (card_device run nets (call_at line c)) (map (card_device run nets) bs) in
    omega (arith, here, length-map c.nodes (net_number nets), places_of_bodies run nets bs)

-- there are no more subcircuits than all are large
subs_few : (ss : List Sub) → length ss ≤ total sub_size ss
subs_few [] = omega arith
subs_few (s ∷ ss) = omega (arith, subs_few ss)

-- cards and ports of a subcircuit are no larger than all
pub cards_in_size : (ss : List Sub) (s : Sub) → Contains ss s → length s.head.ports + total body_size s.cards < sum_by sub_size ss
cards_in_size ss s h =
    let here = one_of_total sub_size ss s h in
    let all = total_is sub_size ss in
    let cards = total_is body_size s.cards in
    omega (arith, here, all, cards)

-- there are few types, and few cells
pub few_run_types : (f : Flat) (library : Library) → AreSound f library → length (types_of (source_of f library)) + length library.deck.subs ≤ 201326592
few_run_types f library is =
    let s = source_of f library in
    let cards = s.devices ++ flat_map (λ cards. cards) s.cells in
    let kinds = few_types (type_in s) cards in
    let same = length-map (types_of s) classes_of in
    let both = length-append s.devices (flat_map (λ cards. cards) s.cells) in
    let all = total_is sub_size library.deck.subs in
    omega (arith, kinds, same, both, places_are s.devices, places_are (flat_map (λ cards. cards) s.cells), is.source.deck_places, is.source.cell_places, all, subs_few library.deck.subs, is.cells.small)
