-- The nodes of a composite's cards, turned back, go to the nets of the devices that the cards were matched with.
use Rattle.std.proofs.Common.{◌≡◌, ◌<◌, ◌∙◌, ℕ, zero, suc, List, [], ◌∷◌, length, map, eqb, cond, Some, refl, sym, ap, ap₂, subst, arith, inl, inr, flat_map}
use Rattle.std.specs.Prelude.{AllPairs, Contains, zip, slice_index}
use Rattle.std.specs.Option.{unwrap_or}
use Rattle.std.specs.List.{AllZip, range_with_len}
use Rattle.std.proofs.lemmas.Bool.{cases_Bool, eqb-true, eq-eqb}
use Rattle.std.proofs.lemmas.List.{get_or-map, length-map}
use Rattle.std.proofs.lemmas.List.FromFn.{length-range_with_len, get_or-range_with_len}
use Rattle.std.proofs.lemmas.List.Elements.{Contains-append_left, Contains-append_right}
use Rattle.gl_match.proofs.Lists.{in_none, in_head, in_tail, in_cons, in_flat_map}
use Rattle.gl_match.proofs.TurnLaws.{turn_is}
use Rattle.gl_match.proofs.AtLaws.{turn_length}
use Rattle.gl_match.specs.declared.spot.Spot.{Spot}
use Rattle.gl_match.specs.Graph.{Circuit, Pattern, device_at, shape_at}
use Rattle.gl_match.specs.LegalMaps.{IsLegal, Suits, Agree, nets_at, pairs_of}
use Rattle.gl_match.specs.Turns.{turns_of, turn_at}
use Rattle.gl_match.specs.Keys.{image_in, port_image, key_of}
use Rattle.gl_text.specs.Decks.{Body}
use Rattle.gl_base.specs.TypeNames.{classes_of}
use Rattle.gl_base.specs.BaseCircuit.{net_number}
use Rattle.gl_base.specs.Libraries.{nodes_of}
use Rattle.gl_base.specs.Patterns.{role_of}
use Rattle.gl_base.proofs.OnceLaws.{place_within}
use Rattle.gl_base.proofs.TextLaws.{exact, itself, names_stay}
use Rattle.gl_text.specs.LogicalLines.{same_text}
use Rattle.gl_lifting.specs.Runs.{Run, card_type, card_device, cell_nets, pattern_in}
use Rattle.gl_lifting.specs.Replacement.{Slot, Chosen, composite_of}
use Rattle.gl_lifting.specs.LiftedDecks.{nodes_back}
use Rattle.gl_lifting.specs.Pairing.{net_image}
use Rattle.gl_lifting.proofs.TurnBackLaws.{turn_undone, turned_inside}

-- ---- a map's pairs are a function

tail_pairs : (p : Pattern) (x : ℕ × ℕ) (xs : List (ℕ × ℕ)) → AllPairs (Agree p) (x ∷ xs) → AllPairs (Agree p) xs
tail_pairs p x xs h i j d il jl = h (suc i) (suc j) d (omega (arith, il)) (omega (arith, jl))

-- the image of a pair's first net is its second
pub image_is : (p : Pattern) (ps : List (ℕ × ℕ)) → AllPairs (Agree p) ps → (w n : ℕ) → Contains ps (w, n) → image_in ps w ≡ Some n
image_is p [] h w n k = absurd (in_none (w, n) k)
image_is p (x ∷ xs) h w n (zero, lt, e) =
    ap (λ b. cond b (Some x.1) (image_in xs w)) (eq-eqb x.0 w (ap (λ (y : ℕ × ℕ). y.0) e)) ∙ ap (λ (y : ℕ × ℕ). Some y.1) e
image_is p (x ∷ xs) h w n (suc k, lt, e) = elim (cases_Bool (eqb x.0 w)) [
  | inl on ↦
      let both = h 0 (suc k) (w, n) (omega (arith, lt)) (omega (arith, lt)) in
      ap (λ b. cond b (Some x.1) (image_in xs w)) on ∙ ap Some (both.0 (eqb-true x.0 w on ∙ sym (ap (λ (y : ℕ × ℕ). y.0) e)) ∙ ap (λ (y : ℕ × ℕ). y.1) e)
  | inr off ↦ ap (λ b. cond b (Some x.1) (image_in xs w)) off ∙ image_is p xs (tail_pairs p x xs h) w n (k, omega (arith, lt), e)
]

-- nets that a function takes pair by pair to others
mapped_by : (f : ℕ → ℕ) (ws ns : List ℕ) → length ws ≡ length ns → ((w n : ℕ) → Contains (zip ws ns) (w, n) → f w ≡ n) → map f ws ≡ ns
mapped_by f [] [] same h = refl
mapped_by f [] (n ∷ ns) same h = absurd (omega (arith, same))
mapped_by f (w ∷ ws) [] same h = absurd (omega (arith, same))
mapped_by f (w ∷ ws) (n ∷ ns) same h =
    ap₂ (λ a b. a ∷ b) (h w n (in_head (w, n) (zip ws ns))) (mapped_by f ws ns (omega (arith, same)) (λ x y c. h x y (in_tail (w, n) (zip ws ns) (x, y) c)))

-- ---- a card and its spot

-- a card's spot suits it
pub card_suits : (c : Circuit) (run : Run) (nets : List (List ℕ)) (cards : List Body) (spots : List Spot) (card : Body) (spot : Spot) → AllZip (Suits c) (map (card_device run nets) cards) spots → Contains (zip cards spots) (card, spot) → Suits c (card_device run nets card) spot
card_suits c run nets [] spots card spot h k = absurd (in_none (card, spot) k)
card_suits c run nets (x ∷ xs) [] card spot h k = absurd (in_none (card, spot) k)
card_suits c run nets (x ∷ xs) (s ∷ ss) card spot h k = elim (in_cons (x, s) (zip xs ss) (card, spot) k) [
  | inl same ↦ subst (λ (z : Body × Spot). Suits c (card_device run nets z.0) z.1) same h.0
  | inr later ↦ card_suits c run nets xs ss card spot h.1 later
]

-- a card is the cell's
pub card_there : (cards : List Body) (spots : List Spot) (card : Body) (spot : Spot) → Contains (zip cards spots) (card, spot) → Contains cards card
card_there [] spots card spot k = absurd (in_none (card, spot) k)
card_there (x ∷ xs) [] card spot k = absurd (in_none (card, spot) k)
card_there (x ∷ xs) (s ∷ ss) card spot k = elim (in_cons (x, s) (zip xs ss) (card, spot) k) [
  | inl same ↦ (0, omega arith, ap (λ (z : Body × Spot). z.0) same)
  | inr later ↦ in_tail x xs card (card_there xs ss card spot later)
]

-- a pair of a card is among the map's pairs
pub pair_there : (c : Circuit) (run : Run) (nets : List (List ℕ)) (cards : List Body) (spots : List Spot) (card : Body) (spot : Spot) (pair : ℕ × ℕ) → Contains (zip cards spots) (card, spot) → Contains (zip (card_device run nets card).nets (nets_at c spot)) pair → Contains (pairs_of c (map (card_device run nets) cards) spots) pair
pair_there c run nets [] spots card spot pair k g = absurd (in_none (card, spot) k)
pair_there c run nets (x ∷ xs) [] card spot pair k g = absurd (in_none (card, spot) k)
pair_there c run nets (x ∷ xs) (s ∷ ss) card spot pair k g =
    let own : Body × Spot → List (ℕ × ℕ) = λ z. zip (card_device run nets z.0).nets (nets_at c z.1) in
    let others = pairs_of c (map (card_device run nets) xs) ss in
    elim (in_cons (x, s) (zip xs ss) (card, spot) k) [
      | inl same ↦ Contains-append_left (own (x, s)) others pair (subst (λ z. Contains (own z) pair) (sym same) g)
      | inr later ↦ Contains-append_right (own (x, s)) others pair (pair_there c run nets xs ss card spot pair later g)
    ]

-- functions that agree on a list's elements
map_same : {X Y : Type 0} (f g : X → Y) (xs : List X) → ((x : X) → Contains xs x → f x ≡ g x) → map f xs ≡ map g xs
map_same f g [] h = refl
map_same f g (x ∷ xs) h = ap₂ (λ a b. a ∷ b) (h x (in_head x xs)) (map_same f g xs (λ y k. h y (in_tail x xs y k)))

pub map_twice : {X Y Z : Type 0} (f : Y → Z) (g : X → Y) (xs : List X) → map (λ x. f (g x)) xs ≡ map f (map g xs)
map_twice f g [] = refl
map_twice f g (x ∷ xs) = ap (λ zs. f (g x) ∷ zs) (map_twice f g xs)

-- ---- a composite of a legal map

module _ (c : Circuit) (slots : List Slot) (run : Run) (ch : Chosen) (legal : IsLegal c (pattern_in run ch.cell) ch.instance.least) where
  abbrev nets : List (List ℕ)
  nets = cell_nets ch.cell

  abbrev pairs : List (ℕ × ℕ)
  pairs = pairs_of c (pattern_in run ch.cell).devices ch.instance.least

  -- the image of a name that stands on a card is that of its number
  pub image_at : (name : List ℕ) → Contains nets name → net_image (composite_of c slots run ch) name ≡ port_image pairs (net_number nets name)
  image_at name h =
      let k = net_number nets name in
      let lt = place_within same_text exact itself nets name h in
      let n = length (pattern_in run ch.cell).roles in
      let long : n ≡ length nets = length-map nets (role_of run.source.rails ch.cell.head.ports) in
      let range = length-range_with_len 0 n in
      get_or-map (port_image pairs) (range_with_len 0 n) k 0 0 (omega (arith, lt, long, range))
      ∙ ap (port_image pairs) (get_or-range_with_len 0 n k 0 (omega (arith, lt, long)) ∙ omega arith)

  -- the nodes of a matched card go to the nets at the turned places
  nodes_meet : (card : Body) (spot : Spot) → Contains (zip ch.cell.cards ch.instance.least) (card, spot) → length (nodes_of card) ≡ length (nets_at c spot) → map (net_image (composite_of c slots run ch)) (nodes_of card) ≡ nets_at c spot
  nodes_meet card spot k long =
      let part = card_device run nets card in
      let in_cell = card_there ch.cell.cards ch.instance.least card spot k in
      map_same (net_image (composite_of c slots run ch)) (λ name. port_image pairs (net_number nets name)) (nodes_of card) (λ name h. image_at name (names_stay (flat_map nodes_of ch.cell.cards) name (in_flat_map nodes_of ch.cell.cards card name in_cell h)))
      ∙ map_twice (port_image pairs) (net_number nets) (nodes_of card)
      ∙ mapped_by (port_image pairs) part.nets (nets_at c spot) (length-map (nodes_of card) (net_number nets) ∙ long)
      (λ w n g. ap (λ o. unwrap_or o 0) (image_is (pattern_in run ch.cell) pairs legal.consistent.one_to_one w n (pair_there c run nets ch.cell.cards ch.instance.least card spot (w, n) k g)))

  -- and turned back, to the nets as they stand
  pub back_meets : (card : Body) (spot : Spot) → Contains (zip ch.cell.cards ch.instance.least) (card, spot) → shape_at c (device_at c.devices spot.dev).kind ≡ classes_of (card_type run.source card)
      → length (nodes_of card) ≡ length (classes_of (card_type run.source card)) → length (device_at c.devices spot.dev).nets ≡ length (classes_of (card_type run.source card))
      → map (net_image (composite_of c slots run ch)) (nodes_back run.source card spot.turn) ≡ (device_at c.devices spot.dev).nets
  back_meets card spot k shape named netted =
      let classes = classes_of (card_type run.source card) in
      let image = device_at c.devices spot.dev in
      let suits = card_suits c run nets ch.cell.cards ch.instance.least card spot legal.consistent.suit k in
      let below : spot.turn < length (turns_of classes) = subst (λ cs. spot.turn < length (turns_of cs)) (ap (shape_at c) (sym suits.kind) ∙ shape) suits.turn in
      let places : nets_at c spot ≡ map (slice_index image.nets) (turn_at classes spot.turn) = ap (λ cs. map (slice_index image.nets) (turn_at cs spot.turn)) shape in
      let turned = turn_length (length classes) (turn_at classes spot.turn) (turn_is classes spot.turn below).0 in
      let long : length (nodes_of card) ≡ length (nets_at c spot) = named ∙ sym turned ∙ sym (length-map (turn_at classes spot.turn) (slice_index image.nets)) ∙ sym (ap length places) in
      turn_undone classes spot.turn (nodes_of card) image.nets (net_image (composite_of c slots run ch)) below named netted (nodes_meet card spot k long ∙ places)

  -- and they are names of the cell
  pub back_inside : (card : Body) (spot : Spot) → Contains (zip ch.cell.cards ch.instance.least) (card, spot) → shape_at c (device_at c.devices spot.dev).kind ≡ classes_of (card_type run.source card)
      → length (nodes_of card) ≡ length (classes_of (card_type run.source card)) → (name : List ℕ) → Contains (nodes_back run.source card spot.turn) name → Contains nets name
  back_inside card spot k shape named name h =
      let suits = card_suits c run nets ch.cell.cards ch.instance.least card spot legal.consistent.suit k in
      let classes = classes_of (card_type run.source card) in
      let below : spot.turn < length (turns_of classes) = subst (λ cs. spot.turn < length (turns_of cs)) (ap (shape_at c) (sym suits.kind) ∙ shape) suits.turn in
      names_stay (flat_map nodes_of ch.cell.cards) name (in_flat_map nodes_of ch.cell.cards card name (card_there ch.cell.cards ch.instance.least card spot k) (turned_inside classes spot.turn (nodes_of card) name below named h))

  -- and ports that stand on cards go to the binding
  pub binding_meets : key_of c (pattern_in run ch.cell) ch.instance.least ≡ ch.instance.key → ((port : List ℕ) → Contains ch.cell.head.ports port → Contains nets port) → ch.instance.key.binding ≡ map (net_image (composite_of c slots run ch)) ch.cell.head.ports
  binding_meets key inside =
      ap (λ k. k.binding) (sym key)
      ∙ sym (map_twice (port_image pairs) (net_number nets) ch.cell.head.ports)
      ∙ map_same (λ name. port_image pairs (net_number nets name)) (net_image (composite_of c slots run ch)) ch.cell.head.ports (λ name h. sym (image_at name (inside name h)))
