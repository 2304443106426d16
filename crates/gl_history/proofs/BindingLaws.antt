-- The nets to which the ports of an instance are bound are the circuit's.
use Rattle.std.proofs.Common.{◌≡◌, ◌<◌, ℕ, zero, suc, List, [], ◌∷◌, length, get_or, map, cond, eqb, Some, refl, sym, ap, ◌∙◌, subst, arith, inl, inr}
use Rattle.std.specs.Prelude.{All, slice_index, unwrap_or, slice_get}
use Rattle.std.specs.List.{AllZip, zip}
use Rattle.std.proofs.lemmas.Bool.{cases_Bool}
use Rattle.std.proofs.lemmas.List.{length-map}
use Rattle.std.proofs.lemmas.List.Elements.{All-nil, All-cons, All-head, All-tail, All-append, All-map, All-weaker, Contains-get_or}
use Rattle.gl_match.specs.declared.spot.Spot.{Spot}
use Rattle.gl_match.specs.Graph.{Device, Circuit, Pattern, HasShape, FitsInto, degree, device_at, shape_at, at}
use Rattle.gl_match.specs.Turns.{turns_of, turn_at}
use Rattle.gl_match.specs.LegalMaps.{Suits, pairs_of, nets_at}
use Rattle.gl_match.specs.Keys.{Key, image_in, port_image}
use Rattle.gl_match.specs.Listing.{Instance, IsInstance}
use Rattle.gl_match.proofs.TurnLaws.{turn_is}
use Rattle.gl_match.proofs.AtLaws.{get_any, turn_length, turn_below, at_from, spot_at}
use Rattle.gl_graph.specs.Built.{IsBuilt, IsBuiltPattern}

-- each device of the circuit has a type's shape and nets of the circuit, and each port of the pattern stands on a device
pub record IsWired (c : Circuit) (p : Pattern) : Type 0 where
  pub shapes : All (HasShape c) c.devices
  pub nets : All (λ (d : Device). All (λ net. net < c.nets) d.nets) c.devices
  pub ports : All (λ net. 0 < degree p.devices net) p.ports

got : (xs : List ℕ) (k d : ℕ) → k < length xs → slice_get xs k ≡ Some (get_or xs k d)
got [] k d lt = absurd (omega (arith, lt))
got (x ∷ xs) zero d lt = refl
got (x ∷ xs) (suc k) d lt = got xs k d (omega (arith, lt))

-- as what was built
built_wired : (c : Circuit) (p : Pattern) → IsBuilt c → IsBuiltPattern p → IsWired c p
built_wired c p circuit pattern = record {
  shapes = circuit.devices;
  nets = circuit.nets;
  ports = λ k d lt. pattern.placed (get_or p.ports k d) (pattern.ports k (get_or p.ports k d) (got p.ports k d lt)).0;
}

-- related item by item, at one index
zip_at : {X Y : Type 0} (R : X → Y → Type 0) (xs : List X) (ys : List Y) (k : ℕ) (d : X) (e : Y) → AllZip R xs ys → k < length xs → R (get_or xs k d) (get_or ys k e)
zip_at R [] ys k d e h lt = absurd (omega (arith, lt))
zip_at R (x ∷ xs) [] k d e h lt = absurd h
zip_at R (x ∷ xs) (y ∷ ys) zero d e h lt = h.0
zip_at R (x ∷ xs) (y ∷ ys) (suc k) d e h lt = zip_at R xs ys k d e h.1 (omega (arith, lt))

-- the device of a spot that suits a part
image_shape : (c : Circuit) (part : Device) (spot : Spot) → All (HasShape c) c.devices → Suits c part spot → HasShape c (device_at c.devices spot.dev)
image_shape c part spot shapes suits = shapes spot.dev (record { kind = 0; nets = [] }) suits.device

-- the places of a turn that suits
turn_places : (classes : List ℕ) (turn : ℕ) → turn < length (turns_of classes) → All (λ place. place < length classes) (turn_at classes turn)
turn_places classes turn lt =
    let order = (turn_is classes turn lt).0 in
    λ k d below. subst (λ place. place < length classes) (get_any (turn_at classes turn) k 0 d below) (turn_below (length classes) (turn_at classes turn) k order (omega (arith, turn_length (length classes) (turn_at classes turn) order, below)))

-- the nets of a spot's device are nets of the circuit
nets_below : (c : Circuit) (p : Pattern) (part : Device) (spot : Spot) → IsWired c p → Suits c part spot → All (λ net. net < c.nets) (nets_at c spot)
nets_below c p part spot wired suits =
    let image = device_at c.devices spot.dev in
    let classes = shape_at c image.kind in
    let shape = image_shape c part spot wired.shapes suits in
    let turn : spot.turn < length (turns_of classes) = subst (λ kind. spot.turn < length (turns_of (shape_at c kind))) (sym suits.kind) suits.turn in
    let nets : All (λ net. net < c.nets) image.nets = wired.nets spot.dev (record { kind = 0; nets = [] }) suits.device in
    All-map (λ net. net < c.nets) (slice_index image.nets) (turn_at classes spot.turn)
    (All-weaker (λ place. place < length classes) (λ place. slice_index image.nets place < c.nets) (λ place below. nets place 0 (omega (arith, below, shape.places))) (turn_at classes spot.turn) (turn_places classes spot.turn turn))

-- of pairs, the second ones
zip_below : (n : ℕ) (xs ys : List ℕ) → All (λ y. y < n) ys → All (λ (pair : ℕ × ℕ). pair.1 < n) (zip xs ys)
zip_below n [] ys h = All-nil (λ (pair : ℕ × ℕ). pair.1 < n)
zip_below n (x ∷ xs) [] h = All-nil (λ (pair : ℕ × ℕ). pair.1 < n)
zip_below n (x ∷ xs) (y ∷ ys) h = All-cons (λ (pair : ℕ × ℕ). pair.1 < n) (x, y) (zip xs ys) (All-head (λ z. z < n) y ys h) (zip_below n xs ys (All-tail (λ z. z < n) y ys h))

pairs_below : (c : Circuit) (p : Pattern) (parts : List Device) (spots : List Spot) → IsWired c p → AllZip (Suits c) parts spots → All (λ (pair : ℕ × ℕ). pair.1 < c.nets) (pairs_of c parts spots)
pairs_below c p [] spots wired h = All-nil (λ (pair : ℕ × ℕ). pair.1 < c.nets)
pairs_below c p (part ∷ parts) [] wired h = All-nil (λ (pair : ℕ × ℕ). pair.1 < c.nets)
pairs_below c p (part ∷ parts) (spot ∷ spots) wired h =
    All-append (λ (pair : ℕ × ℕ). pair.1 < c.nets) (zip part.nets (nets_at c spot)) (pairs_of c parts spots) (zip_below c.nets part.nets (nets_at c spot) (nets_below c p part spot wired h.0)) (pairs_below c p parts spots wired h.1)

-- the image of a port's net, read from such pairs
image_below : (n : ℕ) (pairs : List (ℕ × ℕ)) (net : ℕ) → 0 < n → All (λ (pair : ℕ × ℕ). pair.1 < n) pairs → port_image pairs net < n
image_below n [] net some h = some
image_below n (pair ∷ pairs) net some h =
    elim (cases_Bool (eqb pair.0 net)) [
      | inl on ↦ subst (λ b. unwrap_or (cond b (Some pair.1) (image_in pairs net)) 0 < n) (sym on) (All-head (λ (x : ℕ × ℕ). x.1 < n) pair pairs h)
      | inr off ↦ subst (λ b. unwrap_or (cond b (Some pair.1) (image_in pairs net)) 0 < n) (sym off) (image_below n pairs net some (All-tail (λ (x : ℕ × ℕ). x.1 < n) pair pairs h))
    ]

-- where a net of the pattern stands on a device, the circuit has a net
some_net : (c : Circuit) (p : Pattern) (m : List Spot) (net : ℕ) → FitsInto c p → IsWired c p → AllZip (Suits c) p.devices m → 0 < length (at p.devices net) → 0 < c.nets
some_net c p m net fits wired suit stands =
    let place = at_from p.devices net (get_or (at p.devices net) 0 (0, 0)) (Contains-get_or (at p.devices net) 0 (0, 0) stands) in
    let d = (get_or (at p.devices net) 0 (0, 0)).0 in
    let part = device_at p.devices d in
    let spot = spot_at m d in
    let image = device_at c.devices spot.dev in
    let suits : Suits c part spot = zip_at (Suits c) p.devices m d (record { kind = 0; nets = [] }) (record { dev = 0; turn = 0 }) suit place.0 in
    let shape : HasShape c part = fits.devices d (record { kind = 0; nets = [] }) place.0 in
    let same : length (shape_at c image.kind) ≡ length (shape_at c part.kind) = ap (λ kind. length (shape_at c kind)) suits.kind in
    let many : 0 < length image.nets = omega (arith, place.1, shape.places, same, (image_shape c part spot wired.shapes suits).places) in
    let first : get_or image.nets 0 0 < c.nets = wired.nets spot.dev (record { kind = 0; nets = [] }) suits.device 0 0 many in
    omega (arith, first)

-- what is known of the binding of an instance
pub record IsBound (c : Circuit) (p : Pattern) (binding : List ℕ) : Type 0 where
  pub places : length binding ≡ length p.ports
  pub below : All (λ net. net < c.nets) binding

pub bound : (c : Circuit) (p : Pattern) (i : Instance) → IsBuilt c → IsBuiltPattern p → FitsInto c p → IsInstance c p i → IsBound c p i.key.binding
bound c p i circuit pattern fits is =
    let wired = built_wired c p circuit pattern in
    let suit = is.legal.consistent.suit in
    let pairs = pairs_of c p.devices i.least in
    let binding : map (port_image pairs) p.ports ≡ i.key.binding = ap (λ (k : Key). k.binding) is.key_is in
    let below : All (λ net. net < c.nets) (map (port_image pairs) p.ports) =
    All-map (λ net. net < c.nets) (port_image pairs) p.ports (λ k d lt. image_below c.nets pairs (get_or p.ports k d) (some_net c p i.least (get_or p.ports k d) fits wired suit (wired.ports k d lt)) (pairs_below c p p.devices i.least wired suit)) in
    record { places = ap length (sym binding) ∙ length-map p.ports (port_image pairs); below = subst (λ (bs : List ℕ). All (λ net. net < c.nets) bs) binding below }
