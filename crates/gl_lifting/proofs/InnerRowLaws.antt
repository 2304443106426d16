-- The rows of inner nets in a map: which names and images they have.
use Rattle.std.proofs.Common.{◌≡◌, ◌<◌, ◌≤◌, ◌∙◌, ◌+◌, ℕ, suc, List, [], ◌∷◌, ◌++◌, length, get_or, map, cond, eqb, Option, refl, sym, ap, subst, arith, inl, inr, flat_map}
use Rattle.std.specs.Prelude.{Contains, filter_map, zip}
use Rattle.std.specs.List.{cons_option}
use Rattle.std.proofs.lemmas.Bool.{cases_Bool, cases_lt, eqb-true}
use Rattle.gl_match.proofs.Lists.{Once, in_none, in_cons, in_head, in_tail, in_map}
use Rattle.gl_match.proofs.AtLaws.{get_any}
use Rattle.gl_match.specs.declared.role.Role.{Role}
use Rattle.gl_match.specs.declared.role.Role.TheVariants.{Port, Rail, Inner}
use Rattle.gl_text.specs.Flattening.{net_name}
use Rattle.gl_base.specs.BaseCircuit.{Source, net_number}
use Rattle.gl_base.specs.Patterns.{role_of}
use Rattle.gl_base.proofs.OnceLaws.{place_at}
use Rattle.gl_base.proofs.TextLaws.{exact, itself, each_once}
use Rattle.gl_text.specs.LogicalLines.{same_text}
use Rattle.gl_base.specs.Libraries.{nodes_of}
use Rattle.gl_lifting.specs.Runs.{cell_nets}
use Rattle.gl_lifting.specs.Replacement.{Composite}
use Rattle.gl_lifting.specs.NameMaps.{net_renamed, nets_renamed}
use Rattle.gl_lifting.specs.Pairing.{net_image}
use Rattle.gl_lifting.proofs.TableLaws.{times}

-- ---- inner images

-- how often a net is the image of an inner net of a composite
abbrev pub inner_times : Source → ℕ → Composite → ℕ
inner_times s i c = times i (nets_renamed s (record { composite = c; way = [] }))

abbrev pub inner_sum : Source → ℕ → List Composite → ℕ
inner_sum s i [] = 0
inner_sum s i (c ∷ cs) = inner_times s i c + inner_sum s i cs

pub sum-append : (s : Source) (i : ℕ) (xs ys : List Composite) → inner_sum s i (xs ++ ys) ≡ inner_sum s i xs + inner_sum s i ys
sum-append s i [] ys = omega arith
sum-append s i (x ∷ xs) ys = omega (arith, sum-append s i xs ys)

-- ---- rows

module _ (rails ports : List (List ℕ)) (v : List (List ℕ)) where
  -- the row of a name and its image
  abbrev row : List ℕ × ℕ → Option (ℕ × List ℕ)
  row net = net_renamed v (role_of rails ports net.0) net

  -- a number that rows have is the image of an inner net
  pub rows_from : (i : ℕ) (zs : List (List ℕ × ℕ)) → 1 ≤ times i (filter_map row zs) → (z : List ℕ × ℕ) × Contains zs z × (role_of rails ports z.0 ≡ Inner) × (z.1 ≡ i)
  rows_from i [] le = absurd (omega (arith, le))
  rows_from i (z ∷ zs) le = by (role_of rails ports z.0) refl (rows_from i zs) le where
    shift : (y : List ℕ × ℕ) × Contains zs y × (role_of rails ports y.0 ≡ Inner) × (y.1 ≡ i) → (y : List ℕ × ℕ) × Contains (z ∷ zs) y × (role_of rails ports y.0 ≡ Inner) × (y.1 ≡ i)
    shift r = (r.0, in_tail z zs r.0 r.1, r.2, r.3)

    by : (r : Role) → role_of rails ports z.0 ≡ r → (1 ≤ times i (filter_map row zs) → (y : List ℕ × ℕ) × Contains zs y × (role_of rails ports y.0 ≡ Inner) × (y.1 ≡ i)) → 1 ≤ times i (cons_option (net_renamed v r z) (filter_map row zs))
        → (y : List ℕ × ℕ) × Contains (z ∷ zs) y × (role_of rails ports y.0 ≡ Inner) × (y.1 ≡ i)
    by (Port k) e later le = shift (later le)
    by (Rail k) e later le = shift (later le)
    by Inner e later le = elim (cases_Bool (eqb z.1 i)) [
      | inl on ↦ (z, in_head z zs, e, eqb-true z.1 i on)
      | inr off ↦
          let here : cond {A = ℕ} (eqb z.1 i) 1 0 ≡ 0 = ap (λ b. cond {A = ℕ} b 1 0) off in
          shift (later (omega (arith, le, here)))
    ]

  -- it is there at most once, where names differ and inner names of one image are one
  pub rows_one : (i : ℕ) (zs : List (List ℕ × ℕ)) → Once (map (λ (z : List ℕ × ℕ). z.0) zs) → ((x y : List ℕ × ℕ) → Contains zs x → Contains zs y → x.1 ≡ i → y.1 ≡ i → x.0 ≡ y.0) → times i (filter_map row zs) ≤ 1
  rows_one i [] once one = omega arith
  rows_one i (z ∷ zs) once one = by (role_of rails ports z.0) refl (rows_one i zs once.1 (λ x y ax ay. one x y (in_tail z zs x ax) (in_tail z zs y ay))) where
    by : (r : Role) → role_of rails ports z.0 ≡ r → times i (filter_map row zs) ≤ 1 → times i (cons_option (net_renamed v (role_of rails ports z.0) z) (filter_map row zs)) ≤ 1
    by (Port k) e le = rw e le
    by (Rail k) e le = rw e le
    by Inner e le = rw e (elim (cases_Bool (eqb z.1 i)) [
      | inl on ↦ elim (cases_lt 0 (times i (filter_map row zs))) [
        | inl more ↦
            let r = rows_from i zs (omega (arith, more)) in
            absurd (once.0 (subst (λ x. Contains (map (λ (y : List ℕ × ℕ). y.0) zs) x) (sym (one z r.0 (in_head z zs) (in_tail z zs r.0 r.1) (eqb-true z.1 i on) r.3)) (in_map (λ (y : List ℕ × ℕ). y.0) zs r.0 r.1)))
        | inr none ↦
            let here : cond {A = ℕ} (eqb z.1 i) 1 0 ≡ 1 = ap (λ b. cond {A = ℕ} b 1 0) on in
            omega (arith, here, none)
      ]
      | inr off ↦
          let here : cond {A = ℕ} (eqb z.1 i) 1 0 ≡ 0 = ap (λ b. cond {A = ℕ} b 1 0) off in
          omega (arith, here, le)
    ])

  -- an inner net has a row
  pub rows_there : (zs : List (List ℕ × ℕ)) (z : List ℕ × ℕ) → Contains zs z → role_of rails ports z.0 ≡ Inner → Contains (filter_map row zs) (z.1, net_name (record { path = v; name = z.0 }))
  rows_there [] z at e = absurd (in_none z at)
  rows_there (y ∷ zs) z at e = elim (in_cons y zs z at) [
    | inl same ↦
        let inner : role_of rails ports y.0 ≡ Inner = ap (λ (x : List ℕ × ℕ). role_of rails ports x.0) same ∙ e in
        rw inner (subst (λ (x : List ℕ × ℕ). Contains ((y.1, net_name (record { path = v; name = y.0 })) ∷ filter_map row zs) (x.1, net_name (record { path = v; name = x.0 }))) same (in_head (y.1, net_name (record { path = v; name = y.0 })) (filter_map row zs)))
    | inr later ↦ by (role_of rails ports y.0) refl (rows_there zs z later e)
  ] where
    by : (r : Role) → role_of rails ports y.0 ≡ r → Contains (filter_map row zs) (z.1, net_name (record { path = v; name = z.0 })) → Contains (cons_option (net_renamed v (role_of rails ports y.0) y) (filter_map row zs)) (z.1, net_name (record { path = v; name = z.0 }))
    by (Port k) f h = rw f h
    by (Rail k) f h = rw f h
    by Inner f h = rw f (in_tail (y.1, net_name (record { path = v; name = y.0 })) (filter_map row zs) (z.1, net_name (record { path = v; name = z.0 })) h)

-- the way makes no difference
pub way_free : (rails ports : List (List ℕ)) (v w : List (List ℕ)) (i : ℕ) (zs : List (List ℕ × ℕ)) → times i (filter_map (row rails ports v) zs) ≡ times i (filter_map (row rails ports w) zs)
way_free rails ports v w i [] = refl
way_free rails ports v w i (z ∷ zs) = by (role_of rails ports z.0) refl (way_free rails ports v w i zs) where
  by : (r : Role) → role_of rails ports z.0 ≡ r → times i (filter_map (row rails ports v) zs) ≡ times i (filter_map (row rails ports w) zs)
      → times i (cons_option (net_renamed v (role_of rails ports z.0) z) (filter_map (row rails ports v) zs)) ≡ times i (cons_option (net_renamed w (role_of rails ports z.0) z) (filter_map (row rails ports w) zs))
  by (Port k) e h = rw e h
  by (Rail k) e h = rw e h
  by Inner e h = rw e (ap (λ n. cond {A = ℕ} (eqb z.1 i) 1 0 + n) h)

-- ---- images by names

zip_place : (xs : List (List ℕ)) (ys : List ℕ) (z : List ℕ × ℕ) → Contains (zip xs ys) z → (k : ℕ) × (k < length xs) × (get_or xs k [] ≡ z.0) × (get_or ys k 0 ≡ z.1)
zip_place [] ys z at = absurd (in_none z at)
zip_place (x ∷ xs) [] z at = absurd (in_none z at)
zip_place (x ∷ xs) (y ∷ ys) z at = elim (in_cons (x, y) (zip xs ys) z at) [
  | inl same ↦ (0, omega arith, ap (λ (w : List ℕ × ℕ). w.0) same, ap (λ (w : List ℕ × ℕ). w.1) same)
  | inr later ↦ let r = zip_place xs ys z later in (suc r.0, omega (arith, r.1), r.2, r.3)
]

-- a name beside its image in a composite
pub image_beside : (c : Composite) (z : List ℕ × ℕ) → Contains (zip (cell_nets c.cell) c.images) z → Contains (cell_nets c.cell) z.0 × (net_image c z.0 ≡ z.1)
image_beside c z at =
    let nets = cell_nets c.cell in
    let r = zip_place nets c.images z at in
    let number : net_number nets z.0 ≡ r.0 = ap (net_number nets) (sym r.2) ∙ place_at same_text exact itself nets r.0 [] (each_once (flat_map nodes_of c.cell.cards)) r.1 in
    ((r.0, r.1, get_any nets r.0 z.0 [] r.1 ∙ r.2), ap (λ k. get_or c.images k 0) number ∙ r.3)

-- an inner image is that of an inner name
pub inner_name : (s : Source) (i : ℕ) (c : Composite) → 1 ≤ inner_times s i c → (name : List ℕ) × Contains (cell_nets c.cell) name × (role_of s.rails c.cell.head.ports name ≡ Inner) × (net_image c name ≡ i)
inner_name s i c le =
    let r = rows_from s.rails c.cell.head.ports [] i (zip (cell_nets c.cell) c.images) le in
    let b = image_beside c r.0 r.1 in
    (r.0.0, b.0, r.2, b.1 ∙ r.3)
