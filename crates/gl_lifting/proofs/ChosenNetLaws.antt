-- The nets of a chosen instance: each name of its cell stands on a card, so its image stands on a matched device; inner nets have their images for themselves.
use Rattle.std.proofs.Common.{◌≡◌, ◌<◌, ◌∙◌, ℕ, List, [], ◌∷◌, length, get_or, map, Some, sym, ap, subst, arith, inl, inr, flat_map}
use Rattle.std.specs.Prelude.{All, Contains, zip, slice_index, slice_get}
use Rattle.std.specs.Option.{unwrap_or}
use Rattle.std.specs.List.{AllZip}
use Rattle.std.proofs.lemmas.List.{get_or-map, length-map}
use Rattle.std.proofs.lemmas.List.Elements.{Contains-append_cases}
use Rattle.gl_match.proofs.Lists.{in_none, in_head, in_tail, in_cons, from_map, from_flat_map}
use Rattle.gl_match.proofs.TurnLaws.{turn_is}
use Rattle.gl_match.proofs.AtLaws.{turn_length, turn_below, get_any, both_agree, at_in}
use Rattle.gl_match.specs.declared.role.Role.TheVariants.{Rail, Inner}
use Rattle.gl_match.specs.declared.spot.Spot.{Spot}
use Rattle.gl_match.specs.Graph.{Device, Circuit, device_at, shape_at, role_at}
use Rattle.gl_match.specs.LegalMaps.{IsLegal, IsWithin, StaysInside, GoesHome, Suits, nets_at, pairs_of}
use Rattle.gl_match.specs.Turns.{turns_of, turn_at}
use Rattle.gl_match.specs.Keys.{port_image}
use Rattle.gl_text.specs.LogicalLines.{same_text}
use Rattle.gl_text.specs.Decks.{Body}
use Rattle.gl_base.specs.TypeNames.{classes_of}
use Rattle.gl_base.specs.BaseCircuit.{net_number}
use Rattle.gl_base.specs.Libraries.{nodes_of}
use Rattle.gl_base.specs.Patterns.{role_of}
use Rattle.gl_base.proofs.OnceLaws.{place_within, place_back}
use Rattle.gl_base.proofs.TextLaws.{exact, itself, names_were}
use Rattle.gl_lifting.specs.Runs.{Run, card_type, card_device, cell_nets, pattern_in}
use Rattle.gl_lifting.specs.Replacement.{Slot, Chosen, composite_of}
use Rattle.gl_lifting.specs.Pairing.{net_image}
use Rattle.gl_lifting.proofs.MeetLaws.{card_suits, image_at, image_is, pair_there}

-- ---- lists beside each other

-- a card has a spot beside it
card_spot : (c : Circuit) (run : Run) (nets : List (List ℕ)) (cards : List Body) (spots : List Spot) (card : Body) → AllZip (Suits c) (map (card_device run nets) cards) spots → Contains cards card → (spot : Spot) × Contains (zip cards spots) (card, spot)
card_spot c run nets [] spots card h at = absurd (in_none card at)
card_spot c run nets (x ∷ xs) [] card h at = absurd h
card_spot c run nets (x ∷ xs) (s ∷ ss) card h at = elim (in_cons x xs card at) [
  | inl same ↦ (s, subst (λ (y : Body). Contains (zip (x ∷ xs) (s ∷ ss)) (y, s)) same (in_head (x, s) (zip xs ss)))
  | inr later ↦ let r = card_spot c run nets xs ss card h.1 later in (r.0, in_tail (x, s) (zip xs ss) (card, r.0) r.1)
]

-- and a name's number has a net beside it
beside : (f : List ℕ → ℕ) (names : List (List ℕ)) (ns : List ℕ) (name : List ℕ) → length names ≡ length ns → Contains names name → (n : ℕ) × Contains (zip (map f names) ns) (f name, n)
beside f [] ns name e at = absurd (in_none name at)
beside f (x ∷ xs) [] name e at = absurd (omega (arith, e))
beside f (x ∷ xs) (n ∷ ns) name e at = elim (in_cons x xs name at) [
  | inl same ↦ (n, subst (λ (y : List ℕ). Contains (zip (map f (x ∷ xs)) (n ∷ ns)) (f y, n)) same (in_head (f x, n) (zip (map f xs) ns)))
  | inr later ↦ let r = beside f xs ns name (omega (arith, e)) later in (r.0, in_tail (f x, n) (zip (map f xs) ns) (f name, r.0) r.1)
]

-- the second of a pair stands in the second list
right_in : (xs ys : List ℕ) (p : ℕ × ℕ) → Contains (zip xs ys) p → Contains ys p.1
right_in [] ys p h = absurd (in_none p h)
right_in (x ∷ xs) [] p h = absurd (in_none p h)
right_in (x ∷ xs) (y ∷ ys) p h = elim (in_cons (x, y) (zip xs ys) p h) [
  | inl same ↦ subst (λ (z : ℕ × ℕ). Contains (y ∷ ys) z.1) same (in_head y ys)
  | inr later ↦ in_tail y ys p.1 (right_in xs ys p later)
]

-- what holds of all holds of one
all_at : (P : ℕ × ℕ → Type 0) (xs : List (ℕ × ℕ)) → All P xs → (x : ℕ × ℕ) → Contains xs x → P x
all_at P xs h x at = subst P at.2 (h at.0 x at.1)

-- ---- pairs

-- devices have a net for each place of their shape
abbrev pub Whole : Circuit → Type 0
Whole c = (d : ℕ) → d < length c.devices → length (device_at c.devices d).nets ≡ length (shape_at c (device_at c.devices d).kind)

-- the net of a pair stands on a spot's device
pair_on : (c : Circuit) → Whole c → (parts : List Device) (spots : List Spot) → AllZip (Suits c) parts spots → (p : ℕ × ℕ) → Contains (pairs_of c parts spots) p → (spot : Spot) × Contains spots spot × (spot.dev < length c.devices) × Contains (device_at c.devices spot.dev).nets p.1
pair_on c whole [] spots h p at = absurd (in_none p at)
pair_on c whole (x ∷ xs) [] h p at = absurd h
pair_on c whole (x ∷ xs) (s ∷ ss) h p at = elim (Contains-append_cases (zip x.nets (nets_at c s)) (pairs_of c xs ss) p at) [
  | inl own ↦
      let image = device_at c.devices s.dev in
      let classes = shape_at c image.kind in
      let below : s.turn < length (turns_of classes) = subst (λ k. s.turn < length (turns_of (shape_at c k))) (sym h.0.kind) h.0.turn in
      let r = from_map (slice_index image.nets) (turn_at classes s.turn) p.1 (right_in x.nets (nets_at c s) p own) in
      let perm = (turn_is classes s.turn below).0 in
      let turn = turn_at classes s.turn in
      let there : r.1.0 < length classes = omega (arith, r.1.1, turn_length (length classes) turn perm) in
      let lt : r.0 < length classes = omega (arith, turn_below (length classes) turn r.1.0 perm there, get_any turn r.1.0 r.0 0 r.1.1, r.1.2) in
      let lies : r.0 < length image.nets = omega (arith, lt, whole s.dev h.0.device) in
      (s, in_head s ss, h.0.device, subst (λ n. Contains image.nets n) r.2 (r.0, lies, get_any image.nets r.0 _ 0 lies))
  | inr later ↦ let r = pair_on c whole xs ss h.1 p later in (r.0, in_tail s ss r.0 r.1, r.2, r.3)
]

module _ (c : Circuit) (slots : List Slot) (run : Run) (ch : Chosen) (legal : IsLegal c (pattern_in run ch.cell) ch.instance.least) (whole : Whole c)
    (shapes : (card : Body) (spot : Spot) → Contains (zip ch.cell.cards ch.instance.least) (card, spot) → shape_at c (device_at c.devices spot.dev).kind ≡ classes_of (card_type run.source card))
    (nodes : (card : Body) → Contains ch.cell.cards card → length (nodes_of card) ≡ length (classes_of (card_type run.source card))) where
  abbrev nets : List (List ℕ)
  nets = cell_nets ch.cell

  abbrev pairs : List (ℕ × ℕ)
  pairs = pairs_of c (pattern_in run ch.cell).devices ch.instance.least

  -- a name's number is paired with its image
  name_pair : (name : List ℕ) → Contains nets name → Contains pairs (net_number nets name, net_image (composite_of c slots run ch) name)
  name_pair name at =
      let node = from_flat_map nodes_of ch.cell.cards name (names_were (flat_map nodes_of ch.cell.cards) name at) in
      let card = node.0 in
      let r = card_spot c run nets ch.cell.cards ch.instance.least card legal.consistent.suit node.1 in
      let spot = r.0 in
      let suits = card_suits c run nets ch.cell.cards ch.instance.least card spot legal.consistent.suit r.1 in
      let classes = shape_at c (device_at c.devices spot.dev).kind in
      let below : spot.turn < length (turns_of classes) = subst (λ k. spot.turn < length (turns_of (shape_at c k))) (sym suits.kind) suits.turn in
      let turned = turn_length (length classes) (turn_at classes spot.turn) (turn_is classes spot.turn below).0 in
      let long : length (nodes_of card) ≡ length (nets_at c spot) = nodes card node.1 ∙ sym (ap length (shapes card spot r.1)) ∙ sym turned ∙ sym (length-map (turn_at classes spot.turn) (slice_index (device_at c.devices spot.dev).nets)) in
      let b = beside (net_number nets) (nodes_of card) (nets_at c spot) name long node.2 in
      let there = pair_there c run nets ch.cell.cards ch.instance.least card spot (net_number nets name, b.0) r.1 b.1 in
      let image : port_image pairs (net_number nets name) ≡ b.0 = ap (λ o. unwrap_or o 0) (image_is (pattern_in run ch.cell) pairs legal.consistent.one_to_one (net_number nets name) b.0 there) in
      subst (λ n. Contains pairs (net_number nets name, n)) (sym (image_at c slots run ch legal name at ∙ image)) there

  -- the image stands on a matched device
  pub image_on : (name : List ℕ) → Contains nets name → (spot : Spot) × Contains ch.instance.least spot × (spot.dev < length c.devices) × Contains (device_at c.devices spot.dev).nets (net_image (composite_of c slots run ch) name)
  image_on name at = pair_on c whole (pattern_in run ch.cell).devices ch.instance.least legal.consistent.suit (net_number nets name, net_image (composite_of c slots run ch) name) (name_pair name at)

  -- names of one image are one
  pub one_image : (x y : List ℕ) → Contains nets x → Contains nets y → net_image (composite_of c slots run ch) x ≡ net_image (composite_of c slots run ch) y → x ≡ y
  one_image x y ax ay e =
      let same = (both_agree (pattern_in run ch.cell) pairs (net_number nets x, net_image (composite_of c slots run ch) x) (net_number nets y, net_image (composite_of c slots run ch) y) legal.consistent.one_to_one (name_pair x ax) (name_pair y ay)).1 e in
      sym (place_back same_text exact itself nets x [] ax) ∙ ap (λ k. get_or nets k []) same ∙ place_back same_text exact itself nets y [] ay

  -- the role of a name's number is the name's
  role_is : (name : List ℕ) → Contains nets name → role_at (pattern_in run ch.cell) (net_number nets name) ≡ role_of run.source.rails ch.cell.head.ports name
  role_is name at =
      get_or-map (role_of run.source.rails ch.cell.head.ports) nets (net_number nets name) [] Inner (place_within same_text exact itself nets name at)
      ∙ ap (role_of run.source.rails ch.cell.head.ports) (place_back same_text exact itself nets name [] at)

  -- an inner net's image has nothing but places of matched devices
  pub inner_within : (name : List ℕ) → Contains nets name → role_of run.source.rails ch.cell.head.ports name ≡ Inner → IsWithin c ch.instance.least (net_image (composite_of c slots run ch) name)
  inner_within name at e =
      let pair = name_pair name at in
      let stays = all_at (λ (p : ℕ × ℕ). StaysInside c ch.instance.least (role_at (pattern_in run ch.cell) p.0) p.1) pairs legal.closed (net_number nets name, net_image (composite_of c slots run ch) name) pair in
      subst (λ r. StaysInside c ch.instance.least r (net_image (composite_of c slots run ch) name)) (role_is name at ∙ e) stays

  -- a rail goes home
  pub rail_home : (name : List ℕ) (r : ℕ) → Contains nets name → role_of run.source.rails ch.cell.head.ports name ≡ Rail r → slice_get c.rails r ≡ Some (Some (net_image (composite_of c slots run ch) name))
  rail_home name r at e =
      let goes = all_at (λ (p : ℕ × ℕ). GoesHome c (role_at (pattern_in run ch.cell) p.0) p.1) pairs legal.consistent.home (net_number nets name, net_image (composite_of c slots run ch) name) (name_pair name at) in
      subst (λ x. GoesHome c x (net_image (composite_of c slots run ch) name)) (role_is name at ∙ e) goes

  -- a device on an inner net's image is a matched one
  pub inner_device : (name : List ℕ) → Contains nets name → role_of run.source.rails ch.cell.head.ports name ≡ Inner → (d : ℕ) → d < length c.devices → Contains (device_at c.devices d).nets (net_image (composite_of c slots run ch) name) → Contains (map (λ (x : Spot). x.dev) ch.instance.least) d
  inner_device name at e d lt on =
      let image = net_image (composite_of c slots run ch) name in
      let place = at_in c.devices image d on.0 lt on.1 (get_any (device_at c.devices d).nets on.0 0 image on.1 ∙ on.2) in
      all_at (λ (p : ℕ × ℕ). Contains (map (λ (x : Spot). x.dev) ch.instance.least) p.0) _ (inner_within name at e).inside (d, on.0) place
