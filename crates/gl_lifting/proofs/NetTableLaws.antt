-- The new nets of original ones: those of inner nets below their composite's way, by the same rows as the table of new names.
use Rattle.std.proofs.Common.{◌≡◌, ◌≤◌, ◌∙◌, ◌+◌, ℕ, List, [], ◌∷◌, ◌++◌, map, cond, eqb, Bool, true, false, Option, Some, None, refl, sym, ap, subst, arith, inl, inr, flat_map}
use Rattle.std.specs.Prelude.{Contains, filter_map, zip}
use Rattle.std.specs.Option.{option_map, unwrap_or}
use Rattle.std.specs.List.{cons_option}
use Rattle.std.proofs.lemmas.List.{map-append}
use Rattle.gl_match.proofs.Lists.{in_none, in_cons, in_head, in_tail, in_flat_map}
use Rattle.gl_match.specs.declared.role.Role.{Role}
use Rattle.gl_match.specs.declared.role.Role.TheVariants.{Port, Rail, Inner}
use Rattle.gl_text.specs.Flattening.{Net, top_net, net_name}
use Rattle.gl_base.specs.BaseCircuit.{Source}
use Rattle.gl_base.specs.Patterns.{role_of}
use Rattle.gl_lifting.specs.Runs.{Run, cell_nets}
use Rattle.gl_lifting.specs.Histories.{History, IsLawful}
use Rattle.gl_lifting.specs.NameMaps.{Located, under, net_renamed, nets_renamed, all_located}
use Rattle.gl_lifting.proofs.TableLaws.{times, under_one, under_none}
use Rattle.gl_lifting.proofs.InnerRowLaws.{inner_sum}
use Rattle.gl_lifting.proofs.LocatedLaws.{nets_times}

-- the net of the image of an inner net
abbrev pub net_row : List (List ℕ) → Role → List ℕ × ℕ → Option (ℕ × Net)
net_row way Inner net = Some (net.1, record { path = way; name = net.0 })
net_row way (Port i) net = None
net_row way (Rail i) net = None

abbrev pub net_rows : Source → Located → List (ℕ × Net)
net_rows s l = filter_map (λ (net : List ℕ × ℕ). net_row l.way (role_of s.rails l.composite.cell.head.ports net.0) net) (zip (cell_nets l.composite.cell) l.composite.images)

-- a row with its name
abbrev named : ℕ × Net → ℕ × List ℕ
named r = (r.0, net_name r.1)

module _ (rails ports : List (List ℕ)) (way : List (List ℕ)) where
  rows_named : (zs : List (List ℕ × ℕ)) → filter_map (λ (net : List ℕ × ℕ). net_renamed way (role_of rails ports net.0) net) zs ≡ map named (filter_map (λ (net : List ℕ × ℕ). net_row way (role_of rails ports net.0) net) zs)
  rows_named [] = refl
  rows_named (z ∷ zs) = by (role_of rails ports z.0) refl (rows_named zs) where
    by : (r : Role) → role_of rails ports z.0 ≡ r → filter_map (λ (net : List ℕ × ℕ). net_renamed way (role_of rails ports net.0) net) zs ≡ map named (filter_map (λ (net : List ℕ × ℕ). net_row way (role_of rails ports net.0) net) zs)
        → cons_option (net_renamed way (role_of rails ports z.0) z) (filter_map (λ (net : List ℕ × ℕ). net_renamed way (role_of rails ports net.0) net) zs) ≡ map named (cons_option (net_row way (role_of rails ports z.0) z) (filter_map (λ (net : List ℕ × ℕ). net_row way (role_of rails ports net.0) net) zs))
    by (Port k) e h = rw e h
    by (Rail k) e h = rw e h
    by Inner e h = rw e (ap (λ rows. (z.1, net_name (record { path = way; name = z.0 })) ∷ rows) h)

  -- an inner net has its row
  row_there : (zs : List (List ℕ × ℕ)) (z : List ℕ × ℕ) → Contains zs z → role_of rails ports z.0 ≡ Inner → Contains (filter_map (λ (net : List ℕ × ℕ). net_row way (role_of rails ports net.0) net) zs) (z.1, record { path = way; name = z.0 })
  row_there [] z at e = absurd (in_none z at)
  row_there (y ∷ zs) z at e = elim (in_cons y zs z at) [
    | inl same ↦
        let inner : role_of rails ports y.0 ≡ Inner = ap (λ (x : List ℕ × ℕ). role_of rails ports x.0) same ∙ e in
        rw inner (subst (λ (x : List ℕ × ℕ). Contains ((y.1, record { path = way; name = y.0 }) ∷ filter_map (λ (net : List ℕ × ℕ). net_row way (role_of rails ports net.0) net) zs) (x.1, record { path = way; name = x.0 })) same (in_head (y.1, record { path = way; name = y.0 }) (filter_map (λ (net : List ℕ × ℕ). net_row way (role_of rails ports net.0) net) zs)))
    | inr later ↦ by (role_of rails ports y.0) refl (row_there zs z later e)
  ] where
    by : (r : Role) → role_of rails ports y.0 ≡ r → Contains (filter_map (λ (net : List ℕ × ℕ). net_row way (role_of rails ports net.0) net) zs) (z.1, record { path = way; name = z.0 }) → Contains (cons_option (net_row way (role_of rails ports y.0) y) (filter_map (λ (net : List ℕ × ℕ). net_row way (role_of rails ports net.0) net) zs)) (z.1, record { path = way; name = z.0 })
    by (Port k) f h = rw f h
    by (Rail k) f h = rw f h
    by Inner f h = rw f (in_tail (y.1, record { path = way; name = y.0 }) (filter_map (λ (net : List ℕ × ℕ). net_row way (role_of rails ports net.0) net) zs) (z.1, record { path = way; name = z.0 }) h)

  -- and a row is an inner net's
  pub row_from : (zs : List (List ℕ × ℕ)) (r : ℕ × Net) → Contains (filter_map (λ (net : List ℕ × ℕ). net_row way (role_of rails ports net.0) net) zs) r → (z : List ℕ × ℕ) × Contains zs z × (r.0 ≡ z.1) × (r.1 ≡ record { path = way; name = z.0 })
  row_from [] r at = absurd (in_none r at)
  row_from (z ∷ zs) r at = by (role_of rails ports z.0) (row_from zs r) at where
    shift : (y : List ℕ × ℕ) × Contains zs y × (r.0 ≡ y.1) × (r.1 ≡ record { path = way; name = y.0 }) → (y : List ℕ × ℕ) × Contains (z ∷ zs) y × (r.0 ≡ y.1) × (r.1 ≡ record { path = way; name = y.0 })
    shift x = (x.0, in_tail z zs x.0 x.1, x.2, x.3)

    by : (q : Role) → (Contains (filter_map (λ (net : List ℕ × ℕ). net_row way (role_of rails ports net.0) net) zs) r → (y : List ℕ × ℕ) × Contains zs y × (r.0 ≡ y.1) × (r.1 ≡ record { path = way; name = y.0 }))
        → Contains (cons_option (net_row way q z) (filter_map (λ (net : List ℕ × ℕ). net_row way (role_of rails ports net.0) net) zs)) r → (y : List ℕ × ℕ) × Contains (z ∷ zs) y × (r.0 ≡ y.1) × (r.1 ≡ record { path = way; name = y.0 })
    by (Port k) later at = shift (later at)
    by (Rail k) later at = shift (later at)
    by Inner later at = elim (in_cons (z.1, record { path = way; name = z.0 }) (filter_map (λ (net : List ℕ × ℕ). net_row way (role_of rails ports net.0) net) zs) r at) [
      | inl same ↦ (z, in_head z zs, ap (λ (x : ℕ × Net). x.0) (sym same), ap (λ (x : ℕ × Net). x.1) (sym same))
      | inr behind ↦ shift (later behind)
    ]

-- ---- tables

all_named : (s : Source) (ls : List Located) → flat_map (nets_renamed s) ls ≡ map named (flat_map (net_rows s) ls)
all_named s [] = refl
all_named s (l ∷ ls) = ap (λ rows. rows ++ flat_map (nets_renamed s) ls) (rows_named s.rails l.composite.cell.head.ports l.way (zip (cell_nets l.composite.cell) l.composite.images))
    ∙ ap (λ rows. map named (net_rows s l) ++ rows) (all_named s ls) ∙ sym (map-append named (net_rows s l) (flat_map (net_rows s) ls))

times_named : (i : ℕ) (rows : List (ℕ × Net)) → times i (map named rows) ≡ times i rows
times_named i [] = refl
times_named i (r ∷ rows) = ap (λ n. cond {A = ℕ} (eqb r.0 i) 1 0 + n) (times_named i rows)

under_named : (i : ℕ) (rows : List (ℕ × Net)) → under (map named rows) i ≡ option_map net_name (under rows i)
under_named i [] = refl
under_named i (r ∷ rows) = by (eqb r.0 i) refl (under_named i rows) where
  by : (b : Bool) → eqb r.0 i ≡ b → under (map named rows) i ≡ option_map net_name (under rows i) → under (map named (r ∷ rows)) i ≡ option_map net_name (under (r ∷ rows) i)
  by true e h = rw e refl
  by false e h = rw e h

module _ (run : Run) (h : History) (stem : List ℕ) (lawful : IsLawful run h) where
  -- the nets of inner nets' images, by their numbers
  abbrev pub net_table : List (ℕ × Net)
  net_table = flat_map (net_rows run.source) (all_located stem h)

  table_times : (i : ℕ) → times i net_table ≡ inner_sum run.source i h.last.composites
  table_times i = sym (times_named i net_table) ∙ sym (ap (times i) (all_named run.source (all_located stem h))) ∙ nets_times run h stem lawful i

  -- the name of the new net is the new name
  pub name_under : (i : ℕ) (old : List ℕ) → unwrap_or (under (flat_map (nets_renamed run.source) (all_located stem h)) i) old ≡ net_name (unwrap_or (under net_table i) (top_net old))
  name_under i old = ap (λ rows. unwrap_or (under rows i) old) (all_named run.source (all_located stem h)) ∙ ap (λ o. unwrap_or o old) (under_named i net_table) ∙ by (under net_table i) where
    by : (o : Option Net) → unwrap_or (option_map net_name o) old ≡ net_name (unwrap_or o (top_net old))
    by None = refl
    by (Some n) = refl

  -- the new net of an inner net's image
  pub inner_under : (i : ℕ) → inner_sum run.source i h.last.composites ≤ 1 → (l : Located) → Contains (all_located stem h) l → (name : List ℕ) → Contains (zip (cell_nets l.composite.cell) l.composite.images) (name, i) → role_of run.source.rails l.composite.cell.head.ports name ≡ Inner
      → under net_table i ≡ Some (record { path = l.way; name = name })
  inner_under i le l at name there inner =
      let net : Net = record { path = l.way; name = name } in
      let row : ℕ × Net = (i, net) in
      under_one i net net_table (omega (arith, table_times i, le)) (in_flat_map (net_rows run.source) (all_located stem h) l row at (row_there run.source.rails l.composite.cell.head.ports l.way (zip (cell_nets l.composite.cell) l.composite.images) (name, i) there inner))

  -- of other nets there is none
  pub outer_under : (i : ℕ) → inner_sum run.source i h.last.composites ≤ 0 → under net_table i ≡ None
  outer_under i le = under_none i net_table (omega (arith, table_times i, le))
