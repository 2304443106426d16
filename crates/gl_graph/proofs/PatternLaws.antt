-- What is known of a pattern that has no refusal.
use Rattle.std.proofs.Common.{◌≡◌, ℕ, zero, suc, ◌+◌, ◌<◌, List, [], ◌∷◌, length, get_or, take, filter, cond, eqb, Bool, true, false, Option, None, Some, refl, sym, ap, ◌∙◌, subst, arith, inl, inr, length-append}
use Rattle.std.specs.Prelude.{not, ◌||◌, nat_lt, slice_get}
use Rattle.std.specs.List.{list_any, flat_map, enumerate_from}
use Rattle.std.proofs.lemmas.Bool.{cases_order, eqb-true, eqb-false, eq-eqb, ltb-true, or_parts, or_left, or_right, or_cases, not-false, cases_Bool}
use Rattle.std.proofs.lemmas.Option.{slice_get-get_or}
use Rattle.std.specs.Option.{option_or}
use Rattle.gl_fault.proofs.FirstLaws.{when_none}
use Rattle.gl_fault.proofs.PairLaws.{or_none}
use Rattle.gl_fault.specs.Refusals.{when}
use Rattle.gl_match.specs.declared.role.Role.{Role}
use Rattle.gl_match.specs.declared.role.Role.TheVariants.{Port, Rail, Inner}
use Rattle.gl_match.specs.Graph.{Device, Circuit, Pattern, FitsInto, IsKnownRail, role_at, is_in, is_some_at, places_of, degree}
use Rattle.gl_match.proofs.Lists.{length_map}
use Rattle.gl_graph.specs.Built.{IsBuiltPattern, IsPortOrRail, pattern_size, pattern_of}
use Rattle.gl_graph.specs.declared.fault.BuildFault.{BuildFault}
use Rattle.gl_graph.specs.declared.fault.BuildFault.TheVariants.{BadRole, BadPort, NoDevice}
use Rattle.gl_graph.specs.Faults.{first_in, device_fault, is_placed, is_rail_of, is_bad_role, role_fault, is_bad_port, port_fault, pattern_fault}
use Rattle.gl_graph.proofs.FaultLaws.{none_at, any_before, devices_sound}

-- ---- a net on a device has a place

listed_placed : (net j : ℕ) (nets : List ℕ) → is_in nets net ≡ true → 0 < length (filter (λ (x : ℕ × ℕ). eqb x.1 net) (enumerate_from j nets))
listed_placed net j [] h = absurd cc
listed_placed net j (n ∷ ns) h =
    let rest = filter (λ (x : ℕ × ℕ). eqb x.1 net) (enumerate_from (j + 1) ns) in
    let longer : List (ℕ × ℕ) → List (ℕ × ℕ) = λ ys. (j, n) ∷ ys in
    elim (cases_Bool (eqb n net)) [
      | inl on ↦ subst (λ (b : Bool). 0 < length (cond b (longer rest) rest)) (sym on) (omega arith)
      | inr off ↦ elim (or_cases (eqb n net) (is_in ns net) h) [
        | inl on ↦ absurd cc
        | inr later ↦ subst (λ (b : Bool). 0 < length (cond b (longer rest) rest)) (sym off) (listed_placed net (j + 1) ns later)
      ]
    ]

placed_degree : (devices : List Device) (net : ℕ) → is_placed devices net ≡ true → 0 < degree devices net
placed_degree devices net h = from 0 devices net h where
  from : (k : ℕ) (devices : List Device) (net : ℕ) → is_placed devices net ≡ true → 0 < length (flat_map (places_of net) (enumerate_from k devices))
  from k [] net h = absurd cc
  from k (d ∷ ds) net h =
      let pair : ℕ × ℕ → ℕ × ℕ = λ x. (k, x.0) in
      let found = filter (λ (x : ℕ × ℕ). eqb x.1 net) (enumerate_from 0 d.nets) in
      elim (or_cases (is_in d.nets net) (is_placed ds net) h) [
        | inl here ↦ omega (arith, length-append (places_of net (k, d)) (flat_map (places_of net) (enumerate_from (k + 1) ds)), length_map pair found, listed_placed net 0 d.nets here)
        | inr later ↦ omega (arith, length-append (places_of net (k, d)) (flat_map (places_of net) (enumerate_from (k + 1) ds)), from (k + 1) ds net later)
      ]

-- ---- what each part says

pub parts : (shapes : List (List ℕ)) (rails : ℕ) (p : Pattern) → pattern_fault shapes rails p ≡ None → (first_in (device_fault shapes (length p.roles)) 0 p.devices ≡ None) × (first_in (role_fault rails p) 0 p.roles ≡ None) × (first_in (port_fault (length p.roles) p.ports) 0 p.ports ≡ None) × (when (eqb (length p.devices) 0) NoDevice ≡ None)
parts shapes rails p e =
    let devices = first_in (device_fault shapes (length p.roles)) 0 p.devices in
    let roles = first_in (role_fault rails p) 0 p.roles in
    let ports = first_in (port_fault (length p.roles) p.ports) 0 p.ports in
    let filled = when (eqb (length p.devices) 0) NoDevice in
    let a = or_none devices (option_or roles (option_or ports filled)) e in
    let b = or_none roles (option_or ports filled) a.1 in
    let c = or_none ports filled b.1 in
    (a.0, b.0, c.0, c.1)

pub parts_none : (shapes : List (List ℕ)) (rails : ℕ) (p : Pattern) → first_in (device_fault shapes (length p.roles)) 0 p.devices ≡ None → first_in (role_fault rails p) 0 p.roles ≡ None → first_in (port_fault (length p.roles) p.ports) 0 p.ports ≡ None → eqb (length p.devices) 0 ≡ false → pattern_fault shapes rails p ≡ None
parts_none shapes rails p devices roles ports filled =
    let all : Option BuildFault → Option BuildFault → Option BuildFault → Bool → Option BuildFault = λ w x y b. option_or w (option_or x (option_or y (when b NoDevice))) in
    ap (λ w. all w (first_in (role_fault rails p) 0 p.roles) (first_in (port_fault (length p.roles) p.ports) 0 p.ports) (eqb (length p.devices) 0)) devices
    ∙ ap (λ x. all None x (first_in (port_fault (length p.roles) p.ports) 0 p.ports) (eqb (length p.devices) 0)) roles
    ∙ ap (λ y. all None None y (eqb (length p.devices) 0)) ports
    ∙ ap (λ b. all None None None b) filled

role_good : (rails : ℕ) (p : Pattern) → first_in (role_fault rails p) 0 p.roles ≡ None → (net : ℕ) (role : Role) → slice_get p.roles net ≡ Some role → (is_placed p.devices net ≡ true) × (is_bad_role rails p.roles p.ports net role ≡ false)
role_good rails p e net role is =
    let good = when_none (not (is_placed p.devices net) || is_bad_role rails p.roles p.ports net role) (BadRole net) (none_at (role_fault rails p) p.roles e net role is) in
    let both = or_parts (not (is_placed p.devices net)) (is_bad_role rails p.roles p.ports net role) good in
    (not-false (is_placed p.devices net) both.0, both.1)

port_good : (p : Pattern) → first_in (port_fault (length p.roles) p.ports) 0 p.ports ≡ None → (port net : ℕ) → slice_get p.ports port ≡ Some net → (net < length p.roles) × (is_in (take port p.ports) net ≡ false)
port_good p e port net is =
    let good = when_none (is_bad_port (length p.roles) p.ports port net) (BadPort port) (none_at (port_fault (length p.roles) p.ports) p.ports e port net is) in
    let both = or_parts (not (nat_lt net (length p.roles))) (is_in (take port p.ports) net) good in
    (ltb-true net (length p.roles) (not-false (nat_lt net (length p.roles)) both.0), both.1)

some_at : (net : ℕ) (found : Option ℕ) → is_some_at net found ≡ true → found ≡ Some net
some_at net None h = absurd cc
some_at net (Some x) h = ap (λ (n : ℕ). Some n) (eqb-true x net h)

any_at : {X : Type 0} (p : X → Bool) (xs : List X) (k : ℕ) (x : X) → slice_get xs k ≡ Some x → p x ≡ true → list_any p xs ≡ true
any_at p [] k x is on = absurd cc
any_at p (y ∷ ys) zero x is on = let e : y ≡ x = cc in or_left (p y) (list_any p ys) (ap p e ∙ on)
any_at p (y ∷ ys) (suc k) x is on = or_right (p y) (list_any p ys) (any_at p ys k x is on)

-- ---- one of two orders

rails_ordered : (rails : ℕ) (p : Pattern) → first_in (role_fault rails p) 0 p.roles ≡ None → (rail net other : ℕ) → net < other → slice_get p.roles net ≡ Some (Rail rail) → slice_get p.roles other ≡ Some (Rail rail) → ⊥
rails_ordered rails p e rail net other lt here there =
    let found = any_before (is_rail_of rail) p.roles net other (Rail rail) lt here (eq-eqb rail rail refl) in
    let none = (or_parts (not (nat_lt rail rails)) (list_any (is_rail_of rail) (take other p.roles)) (role_good rails p e other (Rail rail) there).1).1 in
    absurd cc

ports_ordered : (p : Pattern) → first_in (port_fault (length p.roles) p.ports) 0 p.ports ≡ None → (port other net : ℕ) → port < other → slice_get p.ports port ≡ Some net → slice_get p.ports other ≡ Some net → ⊥
ports_ordered p e port other net lt here there =
    let found = any_before (λ y. eqb y net) p.ports port other net lt here (eq-eqb net net refl) in
    let none = (port_good p e other net there).1 in
    absurd cc

either : (a b : ℕ) → (a < b → ⊥) → (b < a → ⊥) → a ≡ b
either a b f g = elim (cases_order a b) [ inl same ↦ same | inr differ ↦ elim differ [ inl lt ↦ absurd (f lt) | inr gt ↦ absurd (g gt) ] ]

named : (rails : ℕ) (p : Pattern) → first_in (role_fault rails p) 0 p.roles ≡ None → (port net : ℕ) → slice_get p.roles net ≡ Some (Port port) → slice_get p.ports port ≡ Some net
named rails p e port net is = some_at net (slice_get p.ports port) (not-false (is_some_at net (slice_get p.ports port)) (role_good rails p e net (Port port) is).1)

apart : (p : Pattern) → first_in (port_fault (length p.roles) p.ports) 0 p.ports ≡ None → (port other net : ℕ) → slice_get p.ports port ≡ Some net → slice_get p.ports other ≡ Some net → port ≡ other
apart p e port other net here there = either port other (λ lt. ports_ordered p e port other net lt here there) (λ gt. ports_ordered p e other port net gt there here)

port_role : (rails : ℕ) (p : Pattern) → first_in (role_fault rails p) 0 p.roles ≡ None → first_in (port_fault (length p.roles) p.ports) 0 p.ports ≡ None → (port net : ℕ) (role : Role) → slice_get p.ports port ≡ Some net → slice_get p.roles net ≡ Some role → IsPortOrRail port role
port_role rails p e f port net (Port i) here is = apart p f i port net (named rails p e i net is) here
port_role rails p e f port net (Rail r) here is = tt
port_role rails p e f port net Inner here is =
    let found = any_at (λ y. eqb y net) p.ports port net here (eq-eqb net net refl) in
    let none = (role_good rails p e net Inner is).1 in
    absurd cc

some_of : (p : Pattern) (net : ℕ) → net < length p.roles → slice_get p.roles net ≡ Some (role_at p net)
some_of p net lt = slice_get-get_or p.roles net Inner lt

pub pattern_sound : (shapes : List (List ℕ)) (rails : ℕ) (p : Pattern) → pattern_fault shapes rails p ≡ None → pattern_size p < 4294967295 → IsBuiltPattern p
pattern_sound shapes rails p e few =
    let all = parts shapes rails p e in
    let some : length p.devices ≡ 0 → ⊥ = eqb-false (length p.devices) 0 (when_none (eqb (length p.devices) 0) NoDevice all.3) in
    record {
      filled = elim (cases_order 0 (length p.devices)) [ inl none ↦ absurd (some (sym none)) | inr differ ↦ elim differ [ inl lt ↦ lt | inr gt ↦ omega arith ] ];
      nets = λ k d lt. (devices_sound shapes (length p.roles) p.devices all.0 k d lt).below;
      placed = λ net lt. placed_degree p.devices net (role_good rails p all.1 net (role_at p net) (some_of p net lt)).0;
      rails_apart = λ rail net other here there. either net other (λ lt. rails_ordered rails p all.1 rail net other lt here there) (λ gt. rails_ordered rails p all.1 rail other net gt there here);
      named = named rails p all.1;
      ports = λ port net here. let lt : net < length p.roles = (port_good p all.2 port net here).0 in (lt, port_role rails p all.1 all.2 port net (role_at p net) here (some_of p net lt));
      ports_apart = apart p all.2;
      size = few;
    }

known_rail : (c : Circuit) (rails : ℕ) (roles : List Role) (ports : List ℕ) (net : ℕ) (role : Role) → length c.rails ≡ rails → is_bad_role rails roles ports net role ≡ false → IsKnownRail c role
known_rail c rails roles ports net (Port i) count good = tt
known_rail c rails roles ports net (Rail r) count good =
    let lt : r < rails = ltb-true r rails (not-false (nat_lt r rails) (or_parts (not (nat_lt r rails)) (list_any (is_rail_of r) (take net roles)) good).0) in
    omega arith
known_rail c rails roles ports net Inner count good = tt

-- it can be looked for in each circuit of these shapes and of so many rails
pub pattern_fits : (shapes : List (List ℕ)) (rails : ℕ) (p : Pattern) → pattern_fault shapes rails p ≡ None → (c : Circuit) → c.shapes ≡ shapes → length c.rails ≡ rails → FitsInto c p
pattern_fits shapes rails p e c same count =
    let all = parts shapes rails p e in
    record {
      devices = λ k d lt. let known = devices_sound shapes (length p.roles) p.devices all.0 k d lt in record {
        kind = subst (λ (ss : List (List ℕ)). (get_or p.devices k d).kind < length ss) (sym same) known.kind;
        places = known.places ∙ ap (λ (ss : List (List ℕ)). length (get_or ss (get_or p.devices k d).kind [])) (sym same);
      };
      rails = λ k d lt. known_rail c rails p.roles p.ports k (get_or p.roles k d) count (role_good rails p all.1 k (get_or p.roles k d) (slice_get-get_or p.roles k d lt)).1;
    }

-- equal parts make equal patterns
pub same_pattern : (devices devices' : List Device) (roles roles' : List Role) (ports ports' : List ℕ) → devices ≡ devices' → roles ≡ roles' → ports ≡ ports' → pattern_of devices roles ports ≡ pattern_of devices' roles' ports'
same_pattern devices devices' roles roles' ports ports' a b c = cc
