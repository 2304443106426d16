-- Where no names clash, a flat name is that of one net.
use Rattle.std.proofs.Common.{◌≡◌, ℕ, zero, suc, List, [], ◌∷◌, ◌++◌, Bool, true, false, not, None, refl, sym, ap, ◌∙◌, map, flat_map, inl, inr, arith}
use Rattle.std.specs.Prelude.{◌&&◌, ◌⊎◌, Contains, codes}
use Rattle.std.proofs.lemmas.List.Elements.{Contains-append_left, Contains-append_right, Contains-append_cases}
use Rattle.std.specs.List.{list_any}
use Rattle.std.proofs.lemmas.Bool.{or_parts, and_from}
use Rattle.gl_text.specs.LogicalLines.{name_clash, same_text}
use Rattle.gl_fault.specs.Refusals.{when}
use Rattle.gl_text.specs.Flattening.{Net, FlatDevice, Flat, Bearer, net, device, device_name, net_name, top_net, top_ports, flat_card, bearers, bearer_name, clash, first_clash}
use Rattle.gl_fault.proofs.FirstLaws.{none_first, when_none}
use Rattle.gl_text.proofs.Names.{itself}
use Rattle.gl_lists.proofs.Membership.{in_head, in_tail, in_none, in_map, in_flat_map, from_map, from_flat_map}
use Rattle.gl_flat.specs.FlatNets.{all_nets, device_nets}
use Rattle.gl_base.specs.BaseCircuit.{nets_of, net_number}
use Rattle.gl_base.specs.Reports.{name_at}
use Rattle.gl_flat.specs.SeenNames.{same_net}
use Rattle.gl_flat.proofs.ClashLaws.{nets_exact}
use Rattle.gl_flat.proofs.FlatKept.{net_back}

-- ---- bearers that do not clash

none_parts : (before : List Bearer) (b : Bearer) (bs : List Bearer) → first_clash before (b ∷ bs) ≡ None → (list_any (clash b) before ≡ false) × (first_clash (before ++ b ∷ []) bs ≡ None)
none_parts before b bs h =
    let a = none_first (when (list_any (clash b) before) (name_clash (bearer_name b))) (first_clash (before ++ b ∷ []) bs ∷ []) h in
    let c = none_first (first_clash (before ++ b ∷ []) bs) [] a.1 in
    (when_none (list_any (clash b) before) (name_clash (bearer_name b)) a.0, c.0)

apart_each : (b y : Bearer) (ys : List Bearer) → list_any (clash b) ys ≡ false → Contains ys y → clash b y ≡ false
apart_each b y [] h i = absurd (in_none y i)
apart_each b y (z ∷ zs) h (zero, lt, e) = ap (clash b) (sym e) ∙ (or_parts (clash b z) (list_any (clash b) zs) h).0
apart_each b y (z ∷ zs) h (suc k, lt, e) = apart_each b y zs (or_parts (clash b z) (list_any (clash b) zs) h).1 (k, omega (arith, lt), e)

-- from those before
apart_before : (before bs : List Bearer) (x y : Bearer) → first_clash before bs ≡ None → Contains bs x → Contains before y → clash x y ≡ false
apart_before before [] x y h i j = absurd (in_none x i)
apart_before before (b ∷ bs) x y h (zero, lt, e) j = ap (λ z. clash z y) (sym e) ∙ apart_each b y before (none_parts before b bs h).0 j
apart_before before (b ∷ bs) x y h (suc k, lt, e) j = apart_before (before ++ b ∷ []) bs x y (none_parts before b bs h).1 (k, omega (arith, lt), e) (Contains-append_left before (b ∷ []) y j)

data Apart (x y : Bearer) : Type 0 where
  same : x ≡ y → Apart x y
  forth : clash x y ≡ false → Apart x y
  back : clash y x ≡ false → Apart x y

later : (before bs : List Bearer) (b x y : Bearer) → first_clash before (b ∷ bs) ≡ None → Contains bs x → y ≡ b → clash x y ≡ false
later before bs b x y h i e = ap (clash x) e ∙ apart_before (before ++ b ∷ []) bs x b (none_parts before b bs h).1 i (Contains-append_right before (b ∷ []) b (in_head b []))

-- from each other
apart_within : (before bs : List Bearer) (x y : Bearer) → first_clash before bs ≡ None → Contains bs x → Contains bs y → Apart x y
apart_within before [] x y h i j = absurd (in_none x i)
apart_within before (b ∷ bs) x y h (zero, lt, e) (zero, mt, f) = same (sym e ∙ f)
apart_within before (b ∷ bs) x y h (zero, lt, e) (suc m, mt, f) = back (later before bs b y x h (m, omega (arith, mt), f) (sym e))
apart_within before (b ∷ bs) x y h (suc k, lt, e) (zero, mt, f) = forth (later before bs b x y h (k, omega (arith, lt), e) (sym f))
apart_within before (b ∷ bs) x y h (suc k, lt, e) (suc m, mt, f) = apart_within (before ++ b ∷ []) bs x y (none_parts before b bs h).1 (k, omega (arith, lt), e) (m, omega (arith, mt), f)

-- ---- nets

one_by : (m n : Net) (b : Bool) → same_net m n ≡ b → net_name m ≡ net_name n → clash (net m) (net n) ≡ false → m ≡ n
one_by m n true e f h = nets_exact m n e
one_by m n false e f h =
    let named : same_text (net_name m) (net_name n) ≡ true = ap (same_text (net_name m)) (sym f) ∙ itself (net_name m) in
    let on : (same_text (net_name m) (net_name n) && not (same_net m n)) ≡ true = and_from (same_text (net_name m) (net_name n)) (not (same_net m n)) named (ap not e) in
    absurd cc

net_is : (m n : Net) → net m ≡ net n → m ≡ n
net_is m n e = cc

one : (m n : Net) → Apart (net m) (net n) → net_name m ≡ net_name n → m ≡ n
one m n (same e) f = net_is m n e
one m n (forth h) f = one_by m n (same_net m n) refl f h
one m n (back h) f = sym (one_by n m (same_net n m) refl (sym f) h)

top_one : (names : List (List ℕ)) (m n : Net) → Contains (map top_net names) m → Contains (map top_net names) n → net_name m ≡ net_name n → m ≡ n
top_one names m n i j f =
    let a = from_map top_net names m i in
    let b = from_map top_net names n j in
    let e : a.0 ≡ b.0 = ap net_name a.2 ∙ f ∙ ap net_name (sym b.2) in
    sym a.2 ∙ ap top_net e ∙ b.2

abbrev nets_in : FlatDevice → List Net
nets_in d = d.nets

-- a net of a device bears a flat name
borne : (ds : List FlatDevice) (n : Net) → Contains (flat_map nets_in ds) n → Contains (flat_map bearers ds) (net n)
borne ds n i =
    let a = from_flat_map nets_in ds n i in
    in_flat_map bearers ds a.0 (net n) a.1 (in_tail (device (device_name a.0)) (map net a.0.nets) (net n) (in_map net a.0.nets n a.2))

one_net_by : (tops : List (List ℕ)) (ds : List FlatDevice) (m n : Net) → first_clash (map net (map top_net tops)) (flat_map bearers ds) ≡ None
    → Contains (map top_net tops) m ⊎ Contains (flat_map nets_in ds) m → Contains (map top_net tops) n ⊎ Contains (flat_map nets_in ds) n → net_name m ≡ net_name n → m ≡ n
one_net_by tops ds m n h (inl i) (inl j) f = top_one tops m n i j f
one_net_by tops ds m n h (inl i) (inr j) f = one m n (back (apart_before (map net (map top_net tops)) (flat_map bearers ds) (net n) (net m) h (borne ds n j) (in_map net (map top_net tops) m i))) f
one_net_by tops ds m n h (inr i) (inl j) f = one m n (forth (apart_before (map net (map top_net tops)) (flat_map bearers ds) (net m) (net n) h (borne ds m i) (in_map net (map top_net tops) n j))) f
one_net_by tops ds m n h (inr i) (inr j) f = one m n (apart_within (map net (map top_net tops)) (flat_map bearers ds) (net m) (net n) h (borne ds m i) (borne ds n j)) f

-- two nets of one name are one net
pub one_net : (flat : Flat) (m n : Net) → first_clash (map net (map top_net (codes "0" ∷ flat.rails ++ top_ports flat.top))) (flat_map bearers flat.devices) ≡ None
    → Contains (all_nets flat) m → Contains (all_nets flat) n → net_name m ≡ net_name n → m ≡ n
one_net flat m n h i j f =
    let tops = codes "0" ∷ flat.rails ++ top_ports flat.top in
    let ds = flat.devices in
    let a = Contains-append_cases (map top_net tops) (flat_map nets_in ds) m i in
    let b = Contains-append_cases (map top_net tops) (flat_map nets_in ds) n j in
    one_net_by tops ds m n h a b f

-- and so are two of one number
pub one_number : (flat : Flat) (m n : Net) → first_clash (map net (map top_net (codes "0" ∷ flat.rails ++ top_ports flat.top))) (flat_map bearers flat.devices) ≡ None
    → Contains (device_nets flat) m → Contains (device_nets flat) n → net_number (nets_of (map flat_card flat.devices)) (net_name m) ≡ net_number (nets_of (map flat_card flat.devices)) (net_name n) → m ≡ n
one_number flat m n h i j f =
    let tops = codes "0" ∷ flat.rails ++ top_ports flat.top in
    let ds = flat.devices in
    one_net_by tops ds m n h (inr i) (inr j) (sym (net_back ds m i) ∙ ap (name_at (nets_of (map flat_card ds))) f ∙ net_back ds n j)
