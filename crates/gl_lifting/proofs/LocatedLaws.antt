-- What the tables of new names say: each original device's and each inner net's new name, by the composite that has it.
use Rattle.std.proofs.Common.{◌≡◌, ◌<◌, ◌≤◌, ◌∙◌, ◌+◌, ℕ, List, [], ◌∷◌, ◌++◌, length, cond, Some, None, refl, sym, ap, subst, arith, inl, inr, flat_map}
use Rattle.std.specs.Prelude.{Contains, filter_map, reverse, zip}
use Rattle.std.proofs.lemmas.Bool.{eq-eqb}
use Rattle.gl_match.proofs.Lists.{in_none, in_cons, in_head, in_tail, in_flat_map}
use Rattle.gl_match.specs.declared.role.Role.TheVariants.{Inner}
use Rattle.gl_text.specs.Cards.{Device as Card}
use Rattle.gl_text.specs.Decks.{Body, dev_at, call_at, body_name}
use Rattle.gl_text.specs.Flattening.{device_name, net_name}
use Rattle.gl_base.specs.BaseCircuit.{Source}
use Rattle.gl_base.specs.Patterns.{role_of}
use Rattle.gl_base.specs.RoundReports.{instance_name}
use Rattle.gl_lifting.specs.Runs.{Run, cell_nets}
use Rattle.gl_lifting.specs.Replacement.{Origin, base, made, Part, Slot, Composite}
use Rattle.gl_lifting.specs.Histories.{History, IsLawful}
use Rattle.gl_lifting.specs.NameMaps.{Located, under, device_renamed, devices_renamed, nets_renamed, located, ways_through, located_behind, all_located}
use Rattle.gl_lifting.proofs.Weights.{weight, part_weight}
use Rattle.gl_lifting.proofs.StageLaws.{parts_weight}
use Rattle.gl_lifting.proofs.OnceLaws.{one_base, one_made, base_once, made_stands}
use Rattle.gl_lifting.proofs.MadeLaws.{made_well}
use Rattle.gl_lifting.proofs.OrderLaws.{numbers_run_on, parts_are_earlier}
use Rattle.gl_lifting.proofs.TableLaws.{times, times-append, under_one, under_none}
use Rattle.gl_lifting.proofs.InnerRowLaws.{inner_sum, rows_there, way_free}
use Rattle.gl_lifting.proofs.WayLaws.{Descend, located_one, way_on, own_way}
use Rattle.gl_lifting.proofs.ReverseLaws.{in_reverse, from_reverse, weight_reverse, sum_reverse, descend_reverse}

-- ---- rows of devices

-- a part's device has a row at most
device_times : (dev : ℕ) (way : List (List ℕ)) (bs : List Body) (ps : List Part) → times dev (filter_map (device_renamed way) (zip bs ps)) ≤ part_weight (one_base dev) ps
device_times dev way [] ps = omega arith
device_times dev way (b ∷ bs) [] = omega arith
device_times dev way (b ∷ bs) (p ∷ ps) = by b p.origin (device_times dev way bs ps) where
  by : (b : Body) (o : Origin) → times dev (filter_map (device_renamed way) (zip bs ps)) ≤ part_weight (one_base dev) ps
      → times dev (filter_map (device_renamed way) (zip (b ∷ bs) (record { turn = p.turn; origin = o } ∷ ps))) ≤ one_base dev o + part_weight (one_base dev) ps
  by (dev_at line d) (base i) le = omega (arith, le)
  by (dev_at line d) (made n) le = omega (arith, le)
  by (call_at line c) (base i) le = omega (arith, le)
  by (call_at line c) (made n) le = omega (arith, le)

-- a device card whose part is an original device has its row
device_there : (way : List (List ℕ)) (bs : List Body) (ps : List Part) (line : ℕ) (d : Card) (p : Part) (dev : ℕ) → Contains (zip bs ps) (dev_at line d, p) → p.origin ≡ base dev
    → Contains (filter_map (device_renamed way) (zip bs ps)) (dev, device_name (record { path = way; card = d; nets = [] }))
device_there way [] ps line d p dev at e = absurd (in_none (dev_at line d, p) at)
device_there way (x ∷ bs) [] line d p dev at e = absurd (in_none (dev_at line d, p) at)
device_there way (x ∷ bs) (q ∷ ps) line d p dev at e =
    let name = device_name (record { path = way; card = d; nets = [] }) in
    elim (in_cons (x, q) (zip bs ps) (dev_at line d, p) at) [
      | inl same ↦ subst (λ (z : Body × Part). Contains (filter_map (device_renamed way) (z ∷ zip bs ps)) (dev, name)) (sym same)
          (subst (λ (o : Origin). Contains (filter_map (device_renamed way) ((dev_at line d, record { turn = p.turn; origin = o }) ∷ zip bs ps)) (dev, name)) (sym e) (in_head (dev, name) (filter_map (device_renamed way) (zip bs ps))))
      | inr later ↦ by x q.origin (device_there way bs ps line d p dev later e)
    ]
  where
    by : (b : Body) (o : Origin) → Contains (filter_map (device_renamed way) (zip bs ps)) (dev, device_name (record { path = way; card = d; nets = [] })) → Contains (filter_map (device_renamed way) (zip (b ∷ bs) (record { turn = q.turn; origin = o } ∷ ps))) (dev, device_name (record { path = way; card = d; nets = [] }))
    by (dev_at l f) (base i) h = in_tail (i, device_name (record { path = way; card = f; nets = [] })) (filter_map (device_renamed way) (zip bs ps)) (dev, device_name (record { path = way; card = d; nets = [] })) h
    by (dev_at l f) (made n) h = h
    by (call_at l c) (base i) h = h
    by (call_at l c) (made n) h = h

-- over all composites
all_device_times : (stem : List ℕ) (dev : ℕ) (ways : List (ℕ × List (List ℕ))) (ds : List Composite) → times dev (flat_map devices_renamed (located_behind stem ways ds)) ≤ parts_weight (one_base dev) ds
all_device_times stem dev ways [] = omega arith
all_device_times stem dev ways (d ∷ ds) =
    let l = located stem ways d in
    let rest = flat_map devices_renamed (located_behind stem (ways ++ ways_through l) ds) in
    omega (arith, times-append dev (devices_renamed l) rest, device_times dev l.way d.cell.cards d.parts, all_device_times stem dev (ways ++ ways_through l) ds)

all_net_times : (s : Source) (stem : List ℕ) (i : ℕ) (ways : List (ℕ × List (List ℕ))) (ds : List Composite) → times i (flat_map (nets_renamed s) (located_behind stem ways ds)) ≡ inner_sum s i ds
all_net_times s stem i ways [] = refl
all_net_times s stem i ways (d ∷ ds) =
    let l = located stem ways d in
    let rest = flat_map (nets_renamed s) (located_behind stem (ways ++ ways_through l) ds) in
    omega (arith, times-append i (nets_renamed s l) rest, way_free s.rails d.cell.head.ports l.way [] i (zip (cell_nets d.cell) d.images), all_net_times s stem i (ways ++ ways_through l) ds)

-- what slots weigh, where one of them does
slot_one : (g : Origin → ℕ) (slots : List Slot) (t : Slot) → Contains slots t → g t.origin ≡ 1 → 1 ≤ weight g slots
slot_one g [] t at e = absurd (in_none t at)
slot_one g (x ∷ xs) t at e = elim (in_cons x xs t at) [
  | inl same ↦ let f = ap (λ (y : Slot). g y.origin) same in omega (arith, f, e)
  | inr later ↦ omega (arith, slot_one g xs t later e)
]

module _ (run : Run) (h : History) (stem : List ℕ) (lawful : IsLawful run h) where
  abbrev cs : List Composite
  cs = h.last.composites

  descend : Descend (reverse cs)
  descend = descend_reverse 1 cs (made_well run h lawful).numbers

  numbered : (c : Composite) (at : Contains cs c) → c.number ≡ at.0 + 1
  numbered c at = let e = ap (λ (x : Composite). x.number) at.2 in omega (arith, e, numbers_run_on run h lawful at.0 c at.1)

  -- each is one of the history's
  pub one_of_all : (l : Located) → Contains (all_located stem h) l → Contains cs l.composite
  one_of_all l at = from_reverse cs l.composite (located_one stem [] (reverse cs) l at)

  -- a part's composite is on the way through its card
  pub part_way : (l : Located) → Contains (all_located stem h) l → (b : Body) (p : Part) (k : ℕ) → Contains (zip l.composite.cell.cards l.composite.parts) (b, p) → Contains l.composite.parts p → p.origin ≡ made k → (c : Composite) → Contains cs c → c.number ≡ k
      → (m : Located) × Contains (all_located stem h) m × (m.composite ≡ c) × (m.way ≡ l.way ++ body_name b ∷ [])
  part_way l at b p k there part e c ac f =
      let own = one_of_all l at in
      let earlier = parts_are_earlier run h lawful own.0 l.composite p k own.1 (subst (λ (x : Composite). Contains x.parts p) (sym own.2) part) e in
      let once = (made_stands run k h.last h.rounds lawful.follow).once in
      way_on stem [] (reverse cs) k (omega (arith, weight_reverse (one_made k) cs, once)) descend l at (omega (arith, earlier.1, numbered l.composite own)) b p there e c (in_reverse cs c ac) f

  -- a composite of the last circuit is under its own name
  pub top_way : (t : Slot) → Contains h.last.slots t → (c : Composite) → Contains cs c → t.origin ≡ made c.number → (m : Located) × Contains (all_located stem h) m × (m.composite ≡ c) × (m.way ≡ instance_name stem c.number ∷ [])
  top_way t at c ac e =
      let once = (made_stands run c.number h.last h.rounds lawful.follow).once in
      let here = slot_one (one_made c.number) h.last.slots t at (ap (one_made c.number) e ∙ ap (λ b. cond {A = ℕ} b 1 0) (eq-eqb c.number c.number refl)) in
      own_way stem [] (reverse cs) c (omega (arith, weight_reverse (one_made c.number) cs, once, here)) (in_reverse cs c ac)

  -- the new name of an original device of a composite
  pub device_under : (l : Located) → Contains (all_located stem h) l → (line : ℕ) (d : Card) (p : Part) (dev : ℕ) → dev < length run.source.devices → Contains (zip l.composite.cell.cards l.composite.parts) (dev_at line d, p) → p.origin ≡ base dev
      → under (flat_map devices_renamed (all_located stem h)) dev ≡ Some (device_name (record { path = l.way; card = d; nets = [] }))
  device_under l at line d p dev lt there e =
      let name = device_name (record { path = l.way; card = d; nets = [] }) in
      let once = base_once run dev h.last h.rounds lt lawful.follow in
      under_one dev name (flat_map devices_renamed (all_located stem h)) (omega (arith, all_device_times stem dev [] (reverse cs), weight_reverse (one_base dev) cs, once))
      (in_flat_map devices_renamed (all_located stem h) l (dev, name) at (device_there l.way l.composite.cell.cards l.composite.parts line d p dev there e))

  -- one of the last circuit has none
  pub device_stays : (t : Slot) → Contains h.last.slots t → (dev : ℕ) → dev < length run.source.devices → t.origin ≡ base dev → under (flat_map devices_renamed (all_located stem h)) dev ≡ None
  device_stays t at dev lt e =
      let once = base_once run dev h.last h.rounds lt lawful.follow in
      let here = slot_one (one_base dev) h.last.slots t at (ap (one_base dev) e ∙ ap (λ b. cond {A = ℕ} b 1 0) (eq-eqb dev dev refl)) in
      under_none dev (flat_map devices_renamed (all_located stem h)) (omega (arith, all_device_times stem dev [] (reverse cs), weight_reverse (one_base dev) cs, once, here))

  -- how often a net is in the table
  pub nets_times : (i : ℕ) → times i (flat_map (nets_renamed run.source) (all_located stem h)) ≡ inner_sum run.source i cs
  nets_times i = all_net_times run.source stem i [] (reverse cs) ∙ sum_reverse run.source i cs

  -- the new name of an inner net's image
  pub net_under : (i : ℕ) → inner_sum run.source i cs ≤ 1 → (l : Located) → Contains (all_located stem h) l → (name : List ℕ) → Contains (zip (cell_nets l.composite.cell) l.composite.images) (name, i) → role_of run.source.rails l.composite.cell.head.ports name ≡ Inner
      → under (flat_map (nets_renamed run.source) (all_located stem h)) i ≡ Some (net_name (record { path = l.way; name = name }))
  net_under i le l at name there inner =
      let row : ℕ × List ℕ = (i, net_name (record { path = l.way; name = name })) in
      under_one i row.1 (flat_map (nets_renamed run.source) (all_located stem h)) (omega (arith, nets_times i, le))
      (in_flat_map (nets_renamed run.source) (all_located stem h) l row at (rows_there run.source.rails l.composite.cell.head.ports l.way (zip (cell_nets l.composite.cell) l.composite.images) (name, i) there inner))

  -- of other nets there is none
  pub net_stays : (i : ℕ) → inner_sum run.source i cs ≤ 0 → under (flat_map (nets_renamed run.source) (all_located stem h)) i ≡ None
  net_stays i le = under_none i (flat_map (nets_renamed run.source) (all_located stem h)) (omega (arith, nets_times i, le))
