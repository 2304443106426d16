-- No names clash exactly where those of devices differ and nets of one name are one.
use Rattle.std.proofs.Common.{◌≡◌, ◌∙◌, ℕ, List, [], ◌∷◌, ◌++◌, map, Bool, true, false, None, refl, sym, ap, subst, inl, inr, append_assoc, append-nil}
use Rattle.std.specs.Prelude.{◌&&◌, not, Contains, flat_map}
use Rattle.std.specs.List.{list_any}
use Rattle.std.proofs.lemmas.Bool.{cases_Bool, or_parts, and_parts}
use Rattle.std.proofs.lemmas.List.Elements.{Contains-append_left, Contains-append_right, Contains-append_cases}
use Rattle.gl_match.proofs.Lists.{Once, in_cons, in_none, in_head, in_tail}
use Rattle.gl_text.specs.LogicalLines.{name_clash, same_text}
use Rattle.gl_text.specs.Flattening.{Net, FlatDevice, Bearer, device, net, net_name, device_name, bearers, bearer_name, same_path, clash, first_clash}
use Rattle.gl_base.proofs.TextLaws.{exact, itself}
use Rattle.gl_fault.specs.Refusals.{when}
use Rattle.gl_fault.proofs.FirstLaws.{none_first, when_none}

-- nets of one name are one
abbrev pub Agree : List Bearer → Type 0
Agree bs = (m n : Net) → Contains bs (net m) → Contains bs (net n) → net_name m ≡ net_name n → m ≡ n

-- the names of devices among bearers
abbrev pub devices_named : List Bearer → List (List ℕ)
devices_named [] = []
devices_named (device n ∷ bs) = n ∷ devices_named bs
devices_named (net n ∷ bs) = devices_named bs

-- the same way
same_way : (v w : List (List ℕ)) → same_path v w ≡ true → v ≡ w
same_way [] [] e = refl
same_way [] (y ∷ w) e = absurd cc
same_way (x ∷ v) [] e = absurd cc
same_way (x ∷ v) (y ∷ w) e = let p = and_parts (same_text x y) (same_path v w) e in ap (λ z. z ∷ v) (exact x y p.0) ∙ ap (λ z. y ∷ z) (same_way v w p.1)

way_itself : (v : List (List ℕ)) → same_path v v ≡ true
way_itself [] = refl
way_itself (x ∷ v) = rw (itself x) (way_itself v)

-- nets that do not clash are one, where they have one name
one_net : (m n : Net) → clash (net m) (net n) ≡ false → net_name m ≡ net_name n → m ≡ n
one_net m n off e = by (same_path m.path n.path && same_text m.name n.name) refl where
  named : same_text (net_name m) (net_name n) ≡ true
  named = ap (same_text (net_name m)) (sym e) ∙ itself (net_name m)

  by : (t : Bool) → same_path m.path n.path && same_text m.name n.name ≡ t → m ≡ n
  by true on =
      let p = and_parts (same_path m.path n.path) (same_text m.name n.name) on in
      ap (λ (w : List (List ℕ)). record { path = w; name = m.name }) (same_way m.path n.path p.0) ∙ ap (λ (x : List ℕ). record { path = n.path; name = x }) (exact m.name n.name p.1)
  by false other = absurd (clashing other off) where
    clashing : same_path m.path n.path && same_text m.name n.name ≡ false → clash (net m) (net n) ≡ false → ⊥
    clashing a b = no_way (ap (λ t. t && not (same_path m.path n.path && same_text m.name n.name)) (sym named) ∙ b) where
      no_way : not (same_path m.path n.path && same_text m.name n.name) ≡ false → ⊥
      no_way c = two (same_path m.path n.path && same_text m.name n.name) a c where
        two : (t : Bool) → t ≡ false → not t ≡ false → ⊥
        two true x y = cc
        two false x y = cc

-- of no item a test is met
none_of : (test : Bearer → Bool) (bs : List Bearer) (b : Bearer) → list_any test bs ≡ false → Contains bs b → test b ≡ false
none_of test [] b e h = absurd (in_none b h)
none_of test (x ∷ bs) b e h =
    let p = or_parts (test x) (list_any test bs) e in
    elim (in_cons x bs b h) [ inl same ↦ ap test (sym same) ∙ p.0 | inr later ↦ none_of test bs b p.1 later ]

all_of : (test : Bearer → Bool) (bs : List Bearer) → ((b : Bearer) → Contains bs b → test b ≡ false) → list_any test bs ≡ false
all_of test [] h = refl
all_of test (b ∷ bs) h = rw (h b (in_head b bs), all_of test bs (λ x k. h x (in_tail b bs x k)))

-- ---- where none clash, nets agree

pub agree_by : (bs before : List Bearer) → Agree before → first_clash before bs ≡ None → Agree (before ++ bs)
agree_by [] before a h = subst Agree (sym (append-nil before)) a
agree_by (b ∷ bs) before a h =
    let p = none_first (when (list_any (clash b) before) (name_clash (bearer_name b))) (first_clash (before ++ b ∷ []) bs ∷ []) h in
    let off = when_none (list_any (clash b) before) (name_clash (bearer_name b)) p.0 in
    subst Agree (append_assoc before (b ∷ []) bs) (agree_by bs (before ++ b ∷ []) (more b off) (none_first (first_clash (before ++ b ∷ []) bs) [] p.1).0)
  where
    more : (x : Bearer) → list_any (clash x) before ≡ false → Agree (before ++ x ∷ [])
    more x off m n hm hn e = elim (Contains-append_cases before (x ∷ []) (net m) hm) [
      | inl old ↦ elim (Contains-append_cases before (x ∷ []) (net n) hn) [
        | inl too ↦ a m n old too e
        | inr new ↦ sym (one_net n m (last x n off new (net m) old) (sym e))
      ]
      | inr new ↦ elim (Contains-append_cases before (x ∷ []) (net n) hn) [
        | inl old ↦ one_net m n (last x m off new (net n) old) e
        | inr too ↦ both x m n new too
      ]
    ] where
      last : (x : Bearer) (m : Net) → list_any (clash x) before ≡ false → Contains (x ∷ []) (net m) → (b : Bearer) → Contains before b → clash (net m) b ≡ false
      last x m off h b old = elim (in_cons x [] (net m) h) [
        | inl same ↦ ap (λ z. clash z b) (sym same) ∙ none_of (clash x) before b off old
        | inr later ↦ absurd (in_none (net m) later)
      ]

      both : (x : Bearer) (m n : Net) → Contains (x ∷ []) (net m) → Contains (x ∷ []) (net n) → m ≡ n
      both x m n h g = elim (in_cons x [] (net m) h) [
        | inl first ↦ elim (in_cons x [] (net n) g) [ inl second ↦ one m n (sym first ∙ second) | inr later ↦ absurd (in_none (net n) later) ]
        | inr later ↦ absurd (in_none (net m) later)
      ] where
        one : (m n : Net) → net m ≡ net n → m ≡ n
        one m n e = cc

-- ---- where names differ and nets agree, none clash

devices-append : (xs ys : List Bearer) → devices_named (xs ++ ys) ≡ devices_named xs ++ devices_named ys
devices-append [] ys = refl
devices-append (device n ∷ xs) ys = ap (λ ns. n ∷ ns) (devices-append xs ys)
devices-append (net n ∷ xs) ys = devices-append xs ys

in_named : (bs : List Bearer) (n : List ℕ) → Contains bs (device n) → Contains (devices_named bs) n
in_named [] n h = absurd (in_none (device n) h)
in_named (device m ∷ bs) n h = elim (in_cons (device m) bs (device n) h) [
  | inl same ↦ subst (λ x. Contains (m ∷ devices_named bs) x) (one m n same) (in_head m (devices_named bs))
  | inr later ↦ in_tail m (devices_named bs) n (in_named bs n later)
] where
  one : (m n : List ℕ) → device m ≡ device n → m ≡ n
  one m n e = cc
in_named (net m ∷ bs) n h = elim (in_cons (net m) bs (device n) h) [ inl same ↦ absurd cc | inr later ↦ in_named bs n later ]

-- what stands once in a list does not stand before itself
once_middle : (xs : List (List ℕ)) (y : List ℕ) (ys : List (List ℕ)) → Once (xs ++ y ∷ ys) → Contains xs y → ⊥
once_middle [] y ys o h = in_none y h
once_middle (x ∷ xs) y ys o h = elim (in_cons x xs y h) [
  | inl same ↦ o.0 (subst (λ z. Contains (xs ++ y ∷ ys) z) (sym same) (Contains-append_right xs (y ∷ ys) y (in_head y ys)))
  | inr later ↦ once_middle xs y ys o.1 later
]

pub no_clash : (bs before : List Bearer) → Once (devices_named (before ++ bs)) → Agree (before ++ bs) → first_clash before bs ≡ None
no_clash [] before once agree = refl
no_clash (b ∷ bs) before once agree = rw (all_of (clash b) before (free b once agree), no_clash bs (before ++ b ∷ []) (subst (λ cs. Once (devices_named cs)) (sym (append_assoc before (b ∷ []) bs)) once) (subst Agree (sym (append_assoc before (b ∷ []) bs)) agree)) refl
  where
    free : (b : Bearer) → Once (devices_named (before ++ b ∷ bs)) → Agree (before ++ b ∷ bs) → (x : Bearer) → Contains before x → clash b x ≡ false
    free (device m) once agree (net n) h = refl
    free (net m) once agree (device n) h = refl
    free (device m) once agree (device n) h = elim (cases_Bool (same_text m n)) [
      | inl on ↦ absurd (once_middle (devices_named before) m (devices_named bs) (subst Once (devices-append before (device m ∷ bs)) once) (subst (λ z. Contains (devices_named before) z) (sym (exact m n on)) (in_named before n h)))
      | inr off ↦ off
    ]
    free (net m) once agree (net n) h = elim (cases_Bool (same_text (net_name m) (net_name n))) [
      | inl on ↦
          let same = agree m n (Contains-append_right before (net m ∷ bs) (net m) (in_head (net m) bs)) (Contains-append_left before (net m ∷ bs) (net n) h) (exact (net_name m) (net_name n) on) in
          subst (λ z. clash (net m) (net z) ≡ false) same (rw (itself (net_name m), way_itself m.path, itself m.name) refl)
      | inr off ↦ rw off refl
    ]

-- ---- the bearers of flat devices

nets_none : (ns : List Net) (bs : List Bearer) → devices_named (map net ns ++ bs) ≡ devices_named bs
nets_none [] bs = refl
nets_none (n ∷ ns) bs = nets_none ns bs

names_are : (ds : List FlatDevice) → devices_named (flat_map bearers ds) ≡ map device_name ds
names_are [] = refl
names_are (d ∷ ds) = ap (λ ns. device_name d ∷ ns) (nets_none d.nets (flat_map bearers ds) ∙ names_are ds)

-- the names of devices behind nets
pub names_behind : (ns : List Net) (ds : List FlatDevice) → devices_named (map net ns ++ flat_map bearers ds) ≡ map device_name ds
names_behind ns ds = nets_none ns (flat_map bearers ds) ∙ names_are ds
