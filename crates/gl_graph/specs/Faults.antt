-- The first refusal of what is to be a circuit or a pattern. This project's own.
use Rattle.std.specs.Prelude.{◌≡◌, ◌==◌, ◌||◌, not, ◌⊎◌, ℕ, ◌+◌, List, [], ◌∷◌, length, take, Bool, false, nat_lt, Option, None, Some, Result, MatchResult, slice_index_or, slice_get}
use Rattle.std.specs.List.{list_any}
use Rattle.std.specs.Option.{option_or}
use Rattle.gl_fault.specs.Refusals.{when}
use Rattle.gl_match.specs.declared.role.Role.{Role}
use Rattle.gl_match.specs.declared.role.Role.TheVariants.{Port, Rail, Inner}
use Rattle.gl_match.specs.Graph.{Device, Circuit, Pattern, is_in, is_some_at}
use Rattle.gl_match.specs.Turns.{turns_of}
use Rattle.gl_graph.specs.declared.fault.BuildFault.{BuildFault}
use Rattle.gl_graph.specs.declared.fault.BuildFault.TheVariants.{BadNet, BadType, BadLength, BadShape, BadRail, BadPin, BadRole, BadPort, NoDevice, Memory}

-- the fault of the first item that has one, where the items are numbered from a number on
abbrev pub first_in : {X : Type 0} → (ℕ → X → Option BuildFault) → ℕ → List X → Option BuildFault
first_in fault number [] = None
first_in fault number (x ∷ xs) = option_or (fault number x) (first_in fault (number + 1) xs)

-- a shape has more than 64 places or more than 720 turns
abbrev pub is_bad_shape : List ℕ → Bool
is_bad_shape classes = nat_lt 64 (length classes) || nat_lt 720 (length (turns_of classes))

abbrev pub shape_fault : ℕ → List ℕ → Option BuildFault
shape_fault kind classes = when (is_bad_shape classes) (BadShape kind)

-- a device's type has no shape
abbrev pub type_fault : List (List ℕ) → ℕ → Device → Option BuildFault
type_fault shapes dev d = when (not (nat_lt d.kind (length shapes))) (BadType dev)

-- a device has not as many nets as its shape has places
abbrev pub length_fault : List (List ℕ) → ℕ → Device → Option BuildFault
length_fault shapes dev d = let needs = length (slice_index_or shapes d.kind []) in when (not (length d.nets == needs)) (BadLength dev (length d.nets) needs)

-- a net of a device is out of range
abbrev pub net_fault : ℕ → ℕ → ℕ → ℕ → Option BuildFault
net_fault nets dev place net = when (not (nat_lt net nets)) (BadNet dev place)

-- the first fault of a device
abbrev pub device_fault : List (List ℕ) → ℕ → ℕ → Device → Option BuildFault
device_fault shapes nets dev d = option_or (type_fault shapes dev d) (option_or (length_fault shapes dev d) (first_in (net_fault nets dev) 0 d.nets))

-- a rail's net is out of range, or is that of an earlier rail
abbrev pub is_bad_rail : ℕ → List (Option ℕ) → ℕ → Option ℕ → Bool
is_bad_rail nets rails rail None = false
is_bad_rail nets rails rail (Some net) = not (nat_lt net nets) || list_any (is_some_at net) (take rail rails)

abbrev pub rail_fault : ℕ → List (Option ℕ) → ℕ → Option ℕ → Option BuildFault
rail_fault nets rails rail net = when (is_bad_rail nets rails rail net) (BadRail rail)

-- a pinned net is out of range
abbrev pub pin_fault : ℕ → ℕ → ℕ → Option BuildFault
pin_fault nets index net = when (not (nat_lt net nets)) (BadPin index)

-- the first refusal of a circuit: of its shapes, its devices, its rails, its pinned nets
abbrev pub circuit_fault : Circuit → Option BuildFault
circuit_fault c =
    option_or (first_in shape_fault 0 c.shapes)
    (option_or (first_in (device_fault c.shapes c.nets) 0 c.devices)
    (option_or (first_in (rail_fault c.nets c.rails) 0 c.rails)
    (first_in (pin_fault c.nets) 0 c.pinned)))

-- the net stands on some device
abbrev pub is_placed : List Device → ℕ → Bool
is_placed devices net = list_any (λ (d : Device). is_in d.nets net) devices

abbrev pub is_rail_of : ℕ → Role → Bool
is_rail_of rail (Port i) = false
is_rail_of rail (Rail r) = r == rail
is_rail_of rail Inner = false

-- a role does not hold of its net: a rail that is out of range or stands at an earlier net, another port or none, an inner net among the ports
abbrev pub is_bad_role : ℕ → List Role → List ℕ → ℕ → Role → Bool
is_bad_role rails roles ports net (Port i) = not (is_some_at net (slice_get ports i))
is_bad_role rails roles ports net (Rail r) = not (nat_lt r rails) || list_any (is_rail_of r) (take net roles)
is_bad_role rails roles ports net Inner = is_in ports net

-- a net stands on no device, or its role does not hold
abbrev pub role_fault : ℕ → Pattern → ℕ → Role → Option BuildFault
role_fault rails p net role = when (not (is_placed p.devices net) || is_bad_role rails p.roles p.ports net role) (BadRole net)

-- a port's net is out of range, or is that of an earlier port
abbrev pub is_bad_port : ℕ → List ℕ → ℕ → ℕ → Bool
is_bad_port nets ports index net = not (nat_lt net nets) || is_in (take index ports) net

abbrev pub port_fault : ℕ → List ℕ → ℕ → ℕ → Option BuildFault
port_fault nets ports index net = when (is_bad_port nets ports index net) (BadPort index)

-- the first refusal of a pattern for these shapes and this number of rails: of its devices, its roles, its ports, and that it has no device
abbrev pub pattern_fault : List (List ℕ) → ℕ → Pattern → Option BuildFault
pattern_fault shapes rails p =
    option_or (first_in (device_fault shapes (length p.roles)) 0 p.devices)
    (option_or (first_in (role_fault rails p) 0 p.roles)
    (option_or (first_in (port_fault (length p.roles) p.ports) 0 p.ports)
    (when (length p.devices == 0) NoDevice)))

-- the answer is a value with the property exactly where there is no refusal, and else the first one; it may be want of memory in place of either
abbrev pub AnswersBy : {V : Type 0} → Result V BuildFault → (V → Type 0) → Option BuildFault → Type 0
AnswersBy result IsWanted refusal = MatchResult result (λ made. IsWanted made × (refusal ≡ None)) (λ fault. (fault ≡ Memory) ⊎ (refusal ≡ Some fault))

-- the answer is this value exactly where there is no refusal
abbrev pub Answers : {V : Type 0} → Result V BuildFault → V → Option BuildFault → Type 0
Answers result value refusal = AnswersBy result (λ made. made ≡ value) refusal

-- a check finds no fault, or the first one
abbrev pub Finds : {V : Type 0} → Result V BuildFault → Option BuildFault → Type 0
Finds result fault = MatchResult result (λ _. fault ≡ None) (λ found. fault ≡ Some found)
