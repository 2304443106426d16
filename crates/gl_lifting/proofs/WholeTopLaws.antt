-- No flat names of the lifted deck clash: what devices of the last circuit own is apart, and nets of one name are one.
use Rattle.std.proofs.Common.{◌≡◌, ◌<◌, ◌^◌, ◌∙◌, ℕ, List, [], ◌∷◌, ◌++◌, map, None, refl, sym, ap, ap₂, subst, inl, inr}
use Rattle.std.specs.Prelude.{◌⊎◌, Contains, flat_map}
use Rattle.std.specs.List.{AllByRecursion}
use Rattle.std.proofs.lemmas.List.Elements.{Contains-append_cases}
use Rattle.gl_match.proofs.Lists.{Once, once_append, in_cons, in_map, from_map, from_flat_map}
use Rattle.gl_text.specs.Flattening.{Net, FlatDevice, Bearer, device, net, top_net, bearers, net_name, device_name, first_clash}
use Rattle.gl_base.specs.RoundReports.{instance_name}
use Rattle.gl_base.specs.Stems.{StandsIn}
use Rattle.gl_lifting.specs.Replacement.{Origin, Slot, Composite}
use Rattle.gl_lifting.proofs.FlatCardLaws.{in_each}
use Rattle.gl_lifting.proofs.BelowLaws.{below_is, stem_stands, net_below}
use Rattle.gl_lifting.proofs.ClashLaws.{Agree, no_clash, names_behind}

-- ---- nets

-- a net is the top's, of an old name, or below a composite one of its cell's bearers
abbrev pub Known : (List ℕ → Type 0) → List Composite → (Composite → List Bearer) → List ℕ → Net → Type 0
Known Old cs inner stem m = ((m.path ≡ []) × Old m.name) ⊎ ((c : Composite) × Contains cs c × (n : Net) × Contains (inner c) (net n) × (m ≡ record { path = instance_name stem c.number ∷ n.path; name = n.name }))

module _ (Old : List ℕ → Type 0) (cs : List Composite) (inner : Composite → List Bearer) (stem : List ℕ) (old_free : (name : List ℕ) → Old name → StandsIn stem name → ⊥)
    (low : (c : Composite) → Contains cs c → c.number < 2 ^ 64) (one_number : (c d : Composite) → Contains cs c → Contains cs d → c.number ≡ d.number → c ≡ d) (agree : (c : Composite) → Contains cs c → Agree (inner c)) where
  -- the name of a top's net
  top_name : (m : Net) → m.path ≡ [] → net_name m ≡ m.name
  top_name m e = ap (λ (w : List (List ℕ)). net_name (record { path = w; name = m.name })) e

  -- a top's net has no name of one below a composite
  never : (m : Net) (k : ℕ) (n r : Net) → m.path ≡ [] → Old m.name → n ≡ record { path = instance_name stem k ∷ r.path; name = r.name } → net_name m ≡ net_name n → ⊥
  never m k n r path old e same = old_free m.name old (subst (StandsIn stem) (sym (sym (top_name m path) ∙ same ∙ net_below (instance_name stem k) n r e)) (stem_stands stem (net_name r) k))

  -- known nets of one name are one
  known_agree : (m n : Net) → Known Old cs inner stem m → Known Old cs inner stem n → net_name m ≡ net_name n → m ≡ n
  known_agree m n km kn same = elim km [
    | inl top ↦ elim kn [
      | inl too ↦
          let names = sym (top_name m top.0) ∙ same ∙ top_name n too.0 in
          ap (λ (w : List (List ℕ)). record { path = w; name = m.name }) (top.0 ∙ sym too.0) ∙ ap (λ (x : List ℕ). record { path = n.path; name = x }) names
      | inr below ↦ absurd (never m below.0.number n below.2 top.0 top.1 below.4 same)
    ]
    | inr below ↦ elim kn [
      | inl top ↦ absurd (never n below.0.number m below.2 top.0 top.1 below.4 (sym same))
      | inr too ↦
          let c = below.0 in
          let d = too.0 in
          let parts = below_is stem (net_name below.2) (net_name too.2) c.number d.number (low c below.1) (low d too.1) (sym (net_below (instance_name stem c.number) m below.2 below.4) ∙ same ∙ net_below (instance_name stem d.number) n too.2 too.4) in
          let one = one_number c d below.1 too.1 parts.0 in
          let inside = agree c below.1 below.2 too.2 below.3 (subst (λ (x : Composite). Contains (inner x) (net too.2)) (sym one) too.3) parts.1 in
          below.4 ∙ ap₂ (λ (k : ℕ) (r : Net). record { path = instance_name stem k ∷ r.path; name = r.name }) parts.0 inside ∙ sym too.4
    ]
  ]

  -- no bearers of nets that are known, behind nets of the top of old names, clash where devices' names differ
  pub none_clash : (tops : List (List ℕ)) (ds : List FlatDevice) → ((name : List ℕ) → Contains tops name → Old name) → AllByRecursion (λ (d : FlatDevice). (m : Net) → Contains d.nets m → Known Old cs inner stem m) ds → Once (map device_name ds)
      → first_clash (map (λ n. net (top_net n)) tops) (flat_map bearers ds) ≡ None
  none_clash tops ds old nets once =
      let all = map net (map top_net tops) ++ flat_map bearers ds in
      ap (λ bs. first_clash bs (flat_map bearers ds)) (sym (twice tops))
      ∙ no_clash (flat_map bearers ds) (map net (map top_net tops)) (subst Once (sym (names_behind (map top_net tops) ds)) once) (λ m n hm hn. known_agree m n (each m hm) (each n hn))
    where
      twice : (ns : List (List ℕ)) → map net (map top_net ns) ≡ map (λ n. net (top_net n)) ns
      twice [] = refl
      twice (n ∷ ns) = ap (λ xs. net (top_net n) ∷ xs) (twice ns)

      net_is : (m n : Net) → net m ≡ net n → m ≡ n
      net_is m n e = cc

      each : (m : Net) → Contains (map net (map top_net tops) ++ flat_map bearers ds) (net m) → Known Old cs inner stem m
      each m at = elim (Contains-append_cases (map net (map top_net tops)) (flat_map bearers ds) (net m) at) [
        | inl top ↦
            let r = from_map net (map top_net tops) (net m) top in
            let q = from_map top_net tops r.0 r.1 in
            let is : top_net q.0 ≡ m = q.2 ∙ net_is r.0 m r.2 in
            inl (sym (ap (λ (n : Net). n.path) is), subst Old (ap (λ (n : Net). n.name) is) (old q.0 q.1))
        | inr inside ↦
            let r = from_flat_map bearers ds (net m) inside in
            elim (in_cons (device (device_name r.0)) (map net r.0.nets) (net m) r.2) [
              | inl same ↦ absurd (other (device_name r.0) m same)
              | inr later ↦ let q = from_map net r.0.nets (net m) later in in_each (λ (d : FlatDevice). (m : Net) → Contains d.nets m → Known Old cs inner stem m) ds r.0 nets r.1 m (subst (λ (n : Net). Contains r.0.nets n) (net_is q.0 m q.2) q.1)
            ]
      ] where
        other : (n : List ℕ) (m : Net) → device n ≡ net m → ⊥
        other n m e = cc

-- ---- devices

-- names that are owned by different devices of a circuit differ
module _ (expand : Slot → List FlatDevice) (Owned : Origin → List ℕ → Type 0) (owned_one : (o p : Origin) (name : List ℕ) → Owned o name → Owned p name → o ≡ p) where
  -- who owns a name
  pub owner : (slots : List Slot) → AllByRecursion (λ (t : Slot). AllByRecursion (λ (d : FlatDevice). Owned t.origin (device_name d)) (expand t)) slots → (name : List ℕ) → Contains (map device_name (flat_map expand slots)) name → (t : Slot) × Contains slots t × Owned t.origin name
  owner slots h name at =
      let r = from_map device_name (flat_map expand slots) name at in
      let q = from_flat_map expand slots r.0 r.1 in
      (q.0, q.1, subst (Owned q.0.origin) r.2 (in_each (λ (d : FlatDevice). Owned q.0.origin (device_name d)) (expand q.0) r.0 (in_each (λ (t : Slot). AllByRecursion (λ (d : FlatDevice). Owned t.origin (device_name d)) (expand t)) slots q.0 h q.1) q.2))

  map-append : (xs ys : List FlatDevice) → map device_name (xs ++ ys) ≡ map device_name xs ++ map device_name ys
  map-append [] ys = refl
  map-append (x ∷ xs) ys = ap (λ ns. device_name x ∷ ns) (map-append xs ys)

  pub all_once : (slots : List Slot) → Once (map (λ (t : Slot). t.origin) slots) → AllByRecursion (λ (t : Slot). AllByRecursion (λ (d : FlatDevice). Owned t.origin (device_name d)) (expand t)) slots → AllByRecursion (λ (t : Slot). Once (map device_name (expand t))) slots → Once (map device_name (flat_map expand slots))
  all_once [] once owned each = tt
  all_once (t ∷ ts) once owned each = subst Once (sym (map-append (expand t) (flat_map expand ts))) (once_append (map device_name (expand t)) (map device_name (flat_map expand ts)) each.0 (all_once ts once.1 owned.1 each.1) (λ name here later.
      let r = from_map device_name (expand t) name here in
      let mine = subst (Owned t.origin) r.2 (in_each (λ (d : FlatDevice). Owned t.origin (device_name d)) (expand t) r.0 owned.0 r.1) in
      let q = owner ts owned.1 name later in
      once.0 (subst (λ (o : Origin). Contains (map (λ (x : Slot). x.origin) ts) o) (sym (owned_one t.origin q.0.origin name mine q.2)) (in_map (λ (x : Slot). x.origin) ts q.0 q.1))))
