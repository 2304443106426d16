-- What is known where there is no refusal.
use Rattle.std.proofs.Common.{◌≡◌, ℕ, zero, suc, ◌+◌, ◌<◌, ◌≤◌, List, [], ◌∷◌, length, get_or, take, eqb, Bool, true, false, Option, None, Some, refl, sym, ap, ◌∙◌, arith, inl, inr}
use Rattle.std.specs.Prelude.{not, All, nat_lt, slice_get, slice_index_or}
use Rattle.std.specs.List.{list_any}
use Rattle.std.proofs.lemmas.Bool.{cases_order, eqb-true, eq-eqb, ltb-true, ltb-false, or_parts, or_left, or_right, not-false}
use Rattle.std.proofs.lemmas.Option.{get_or_from_slice_get, slice_get_within}
use Rattle.std.specs.Option.{option_or}
use Rattle.gl_fault.proofs.FirstLaws.{when_none}
use Rattle.gl_fault.proofs.PairLaws.{or_none}
use Rattle.gl_match.specs.Graph.{Device, Circuit, is_some_at}
use Rattle.gl_match.specs.Turns.{turns_of}
use Rattle.gl_graph.specs.Built.{IsShape, IsBuilt, NetsBelow, circuit_size, circuit_of}
use Rattle.gl_graph.specs.declared.fault.BuildFault.{BuildFault}
use Rattle.gl_graph.specs.declared.fault.BuildFault.TheVariants.{BadNet, BadType, BadLength, BadShape, BadRail, BadPin}
use Rattle.gl_graph.specs.Faults.{first_in, is_bad_shape, shape_fault, type_fault, length_fault, net_fault, device_fault, is_bad_rail, rail_fault, pin_fault, circuit_fault}

pub first_none : {X : Type 0} (fault : ℕ → X → Option BuildFault) (n : ℕ) (xs : List X) → first_in fault n xs ≡ None → (k : ℕ) (d : X) → k < length xs → fault (n + k) (get_or xs k d) ≡ None
first_none fault n [] e k d lt = absurd (omega arith)
first_none {X} fault n (x ∷ xs) e zero d lt = ap (λ m. fault m x) (omega arith) ∙ (or_none (fault n x) (first_in fault (n + 1) xs) e).0
first_none {X} fault n (x ∷ xs) e (suc k) d lt = ap (λ m. fault m (get_or xs k d)) (omega arith) ∙ first_none fault (n + 1) xs (or_none (fault n x) (first_in fault (n + 1) xs) e).1 k d (omega arith)

pub none_at : {X : Type 0} (fault : ℕ → X → Option BuildFault) (xs : List X) → first_in fault 0 xs ≡ None → (k : ℕ) (x : X) → slice_get xs k ≡ Some x → fault k x ≡ None
none_at fault xs e k x is = ap (λ m. fault m x) (omega arith) ∙ ap (fault (0 + k)) (sym (get_or_from_slice_get xs k x x is)) ∙ first_none fault 0 xs e k x (slice_get_within xs k x is)

-- an element that passes the test stands before a number
pub any_before : {X : Type 0} (p : X → Bool) (xs : List X) (k n : ℕ) (x : X) → k < n → slice_get xs k ≡ Some x → p x ≡ true → list_any p (take n xs) ≡ true
any_before p [] k n x lt is on = absurd cc
any_before p (y ∷ ys) k zero x lt is on = absurd (omega arith)
any_before p (y ∷ ys) zero (suc n) x lt is on = let e : y ≡ x = cc in or_left (p y) (list_any p (take n ys)) (ap p e ∙ on)
any_before p (y ∷ ys) (suc k) (suc n) x lt is on = or_right (p y) (list_any p (take n ys)) (any_before p ys k n x (omega arith) is on)

-- ---- shapes and devices

pub shapes_sound : (shapes : List (List ℕ)) → first_in shape_fault 0 shapes ≡ None → All IsShape shapes
shapes_sound shapes e = λ k d lt.
    let classes = get_or shapes k d in
    let good = or_parts (nat_lt 64 (length classes)) (nat_lt 720 (length (turns_of classes))) (when_none (is_bad_shape classes) (BadShape (0 + k)) (first_none shape_fault 0 shapes e k d lt)) in
    record { places = ltb-false 64 (length classes) good.0; turns = ltb-false 720 (length (turns_of classes)) good.1 }

-- what is known of a device that has no fault
pub record IsDevice (shapes : List (List ℕ)) (nets : ℕ) (d : Device) : Type 0 where
  pub kind : d.kind < length shapes
  pub places : length d.nets ≡ length (slice_index_or shapes d.kind [])
  pub below : NetsBelow nets d

device_sound : (shapes : List (List ℕ)) (nets dev : ℕ) (d : Device) → device_fault shapes nets dev d ≡ None → IsDevice shapes nets d
device_sound shapes nets dev d e =
    let parts = or_none (type_fault shapes dev d) (option_or (length_fault shapes dev d) (first_in (net_fault nets dev) 0 d.nets)) e in
    let later = or_none (length_fault shapes dev d) (first_in (net_fault nets dev) 0 d.nets) parts.1 in
    let needs = length (slice_index_or shapes d.kind []) in
    record {
      kind = ltb-true d.kind (length shapes) (not-false (nat_lt d.kind (length shapes)) (when_none (not (nat_lt d.kind (length shapes))) (BadType dev) parts.0));
      places = eqb-true (length d.nets) needs (not-false (eqb (length d.nets) needs) (when_none (not (eqb (length d.nets) needs)) (BadLength dev (length d.nets) needs) later.0));
      below = λ k other lt.
          let net = get_or d.nets k other in
          ltb-true net nets (not-false (nat_lt net nets) (when_none (not (nat_lt net nets)) (BadNet dev (0 + k)) (first_none (net_fault nets dev) 0 d.nets later.1 k other lt)));
    }

pub devices_sound : (shapes : List (List ℕ)) (nets : ℕ) (devices : List Device) → first_in (device_fault shapes nets) 0 devices ≡ None → All (IsDevice shapes nets) devices
devices_sound shapes nets devices e = λ k d lt. device_sound shapes nets (0 + k) (get_or devices k d) (first_none (device_fault shapes nets) 0 devices e k d lt)

pub devices_small : (shapes : List (List ℕ)) (nets : ℕ) (devices : List Device) → first_in shape_fault 0 shapes ≡ None → first_in (device_fault shapes nets) 0 devices ≡ None → All (λ (d : Device). length d.nets ≤ 64) devices
devices_small shapes nets devices e f = λ k d lt.
    let known = devices_sound shapes nets devices f k d lt in
    let few : length (get_or shapes (get_or devices k d).kind []) ≤ 64 = (shapes_sound shapes e (get_or devices k d).kind [] known.kind).places in
    omega (arith, known.places, few)

-- ---- a circuit

-- what is known of a circuit without a refusal, part by part
pub circuit_parts : (c : Circuit) → circuit_fault c ≡ None → (first_in shape_fault 0 c.shapes ≡ None) × (first_in (device_fault c.shapes c.nets) 0 c.devices ≡ None) × (first_in (rail_fault c.nets c.rails) 0 c.rails ≡ None) × (first_in (pin_fault c.nets) 0 c.pinned ≡ None)
circuit_parts c e =
    let shapes = first_in shape_fault 0 c.shapes in
    let devices = first_in (device_fault c.shapes c.nets) 0 c.devices in
    let rails = first_in (rail_fault c.nets c.rails) 0 c.rails in
    let pins = first_in (pin_fault c.nets) 0 c.pinned in
    let a = or_none shapes (option_or devices (option_or rails pins)) e in
    let b = or_none devices (option_or rails pins) a.1 in
    let d = or_none rails pins b.1 in
    (a.0, b.0, d.0, d.1)

pub parts_none : (c : Circuit) → first_in shape_fault 0 c.shapes ≡ None → first_in (device_fault c.shapes c.nets) 0 c.devices ≡ None → first_in (rail_fault c.nets c.rails) 0 c.rails ≡ None → first_in (pin_fault c.nets) 0 c.pinned ≡ None → circuit_fault c ≡ None
parts_none c shapes devices rails pins =
    let all : Option BuildFault → Option BuildFault → Option BuildFault → Option BuildFault → Option BuildFault = λ w x y z. option_or w (option_or x (option_or y z)) in
    ap (λ w. all w (first_in (device_fault c.shapes c.nets) 0 c.devices) (first_in (rail_fault c.nets c.rails) 0 c.rails) (first_in (pin_fault c.nets) 0 c.pinned)) shapes
    ∙ ap (λ x. all None x (first_in (rail_fault c.nets c.rails) 0 c.rails) (first_in (pin_fault c.nets) 0 c.pinned)) devices
    ∙ ap (λ y. all None None y (first_in (pin_fault c.nets) 0 c.pinned)) rails
    ∙ pins

rail_good : (c : Circuit) → first_in (rail_fault c.nets c.rails) 0 c.rails ≡ None → (rail net : ℕ) → slice_get c.rails rail ≡ Some (Some net) → (nat_lt net c.nets ≡ true) × (list_any (is_some_at net) (take rail c.rails) ≡ false)
rail_good c e rail net is =
    let good = when_none (is_bad_rail c.nets c.rails rail (Some net)) (BadRail rail) (none_at (rail_fault c.nets c.rails) c.rails e rail (Some net) is) in
    let parts = or_parts (not (nat_lt net c.nets)) (list_any (is_some_at net) (take rail c.rails)) good in
    (not-false (nat_lt net c.nets) parts.0, parts.1)

rails_ordered : (c : Circuit) → first_in (rail_fault c.nets c.rails) 0 c.rails ≡ None → (rail other net : ℕ) → rail < other → slice_get c.rails rail ≡ Some (Some net) → slice_get c.rails other ≡ Some (Some net) → ⊥
rails_ordered c e rail other net lt here there =
    let found = any_before (is_some_at net) c.rails rail other (Some net) lt here (eq-eqb net net refl) in
    let none = (rail_good c e other net there).1 in
    absurd cc

pub circuit_sound : (c : Circuit) → circuit_fault c ≡ None → circuit_size c < 4294967295 → IsBuilt c
circuit_sound c e few =
    let parts = circuit_parts c e in
    let devices = devices_sound c.shapes c.nets c.devices parts.1 in
    record {
      shapes = shapes_sound c.shapes parts.0;
      devices = λ k d lt. let known = devices k d lt in record { kind = known.kind; places = known.places };
      nets = λ k d lt. (devices k d lt).below;
      rails = λ rail net is. ltb-true net c.nets (rail_good c parts.2 rail net is).0;
      apart = λ rail other net here there. elim (cases_order rail other) [
        | inl same ↦ same
        | inr differ ↦ elim differ [
          | inl lt ↦ absurd (rails_ordered c parts.2 rail other net lt here there)
          | inr gt ↦ absurd (rails_ordered c parts.2 other rail net gt there here)
        ]
      ];
      pins = λ k other lt.
          let net = get_or c.pinned k other in
          ltb-true net c.nets (not-false (nat_lt net c.nets) (when_none (not (nat_lt net c.nets)) (BadPin (0 + k)) (first_none (pin_fault c.nets) 0 c.pinned parts.3 k other lt)));
      size = few;
    }

-- equal parts make equal circuits
pub parts_same : (shapes shapes' : List (List ℕ)) (devices devices' : List Device) (nets : ℕ) (rails rails' : List (Option ℕ)) (pinned pinned' : List ℕ) → shapes ≡ shapes' → devices ≡ devices' → rails ≡ rails' → pinned ≡ pinned' → circuit_of shapes devices nets rails pinned ≡ circuit_of shapes' devices' nets rails' pinned'
parts_same shapes shapes' devices devices' nets rails rails' pinned pinned' a b d e = cc
