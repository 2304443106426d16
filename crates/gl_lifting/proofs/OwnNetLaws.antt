-- A composite of a lawful instance has its inner nets for itself.
use Rattle.std.proofs.Common.{◌≡◌, ◌<◌, ◌∙◌, ℕ, List, [], ◌∷◌, length, map, cond, Bool, true, false, Option, Some, None, refl, sym, ap, subst, arith, inl, inr, flat_map}
use Rattle.std.specs.Prelude.{not, Contains, find, position, zip, option_map, slice_get}
use Rattle.std.specs.List.{AllByRecursion, position_or_len}
use Rattle.std.proofs.lemmas.List.{length-map}
use Rattle.gl_match.proofs.Lists.{Once, in_none, in_cons, in_head, in_tail, in_map, from_map}
use Rattle.gl_match.specs.declared.role.Role.TheVariants.{Rail, Inner}
use Rattle.gl_match.specs.declared.spot.Spot.{Spot}
use Rattle.gl_match.specs.Graph.{device_at, is_in, is_rail_net, shape_at}
use Rattle.gl_match.specs.Keys.{Key}
use Rattle.gl_text.specs.LogicalLines.{same_text}
use Rattle.gl_text.specs.Decks.{Body, Sub, is_in as named_in}
use Rattle.gl_base.specs.Libraries.{Cell, loose, nodes_of, loose_port, empty_else, own_skip, uses_else, cell_of}
use Rattle.gl_base.specs.TypeNames.{classes_of}
use Rattle.gl_base.specs.Patterns.{role_by, role_of}
use Rattle.gl_base.specs.Rails.{all_rails}
use Rattle.gl_base.specs.Rounds.{cells_at, is_searched}
use Rattle.gl_base.proofs.OnceLaws as onces
use Rattle.gl_base.proofs.TextLaws.{exact, itself, each_once, names_stay}
use Rattle.gl_lifting.specs.Runs.{Run, cell_nets, card_type, searched_at, first_circuit}
use Rattle.gl_lifting.specs.Replacement.{Slot, Chosen, composite_of}
use Rattle.gl_lifting.specs.Histories.{Stage, circuit_at}
use Rattle.gl_lifting.specs.Meeting.{IsShaped}
use Rattle.gl_lifting.specs.Pairing.{net_image}
use Rattle.gl_lifting.proofs.EachLaws.{all_filter}
use Rattle.gl_lifting.proofs.PartWeights.{ascending_has}
use Rattle.gl_lifting.proofs.ChosenLaws.{IsLawfulOne}
use Rattle.gl_lifting.proofs.MadeLaws.{map_first}
use Rattle.gl_lifting.proofs.StandLaws.{IsTold, all_that}
use Rattle.gl_lifting.proofs.MeetLaws.{card_suits, card_there, binding_meets}
use Rattle.gl_lifting.proofs.LineBackLaws.{shape_of}
use Rattle.gl_lifting.proofs.MatchedLaws.{SlotFrom, slot_from}
use Rattle.gl_lifting.proofs.ChosenNetLaws.{image_on, one_image, inner_within, inner_device, rail_home}
use Rattle.gl_lifting.proofs.InnerRowLaws.{rows_one, image_beside, inner_name}
use Rattle.gl_lifting.proofs.SeparateLaws.{HasOwnNets}
use Rattle.gl_match.proofs.Says.{in_if as has}

-- ---- ports of searched cells

-- each port stands on a card
abbrev pub PortsOn : Sub → Type 0
PortsOn cell = (port : List ℕ) → Contains cell.head.ports port → Contains (cell_nets cell) port

-- where none is loose, each stands on a card
none_loose : (ports nodes : List (List ℕ)) → find (λ port. not (named_in port nodes)) ports ≡ None → (port : List ℕ) → Contains ports port → Contains nodes port
none_loose [] nodes e port at = absurd (in_none port at)
none_loose (p ∷ ps) nodes e port at = by (named_in p nodes) refl e (λ f later. none_loose ps nodes f port later) where
  by : (b : Bool) → named_in p nodes ≡ b → cond (not b) (Some p) (find (λ port. not (named_in port nodes)) ps) ≡ None → (find (λ port. not (named_in port nodes)) ps ≡ None → Contains ps port → Contains nodes port) → Contains nodes port
  by true on f behind = elim (in_cons p ps port at) [
    | inl same ↦ subst (λ x. Contains nodes x) same (onces.there same_text exact itself nodes p on)
    | inr later ↦ behind f later
  ]
  by false off f behind = absurd cc

not_loose : (cell : Sub) (b : Option (List ℕ)) → is_searched (uses_else (own_skip cell) b) ≡ true → PortsOn cell
not_loose cell b e port at = names_stay (flat_map nodes_of cell.cards) port (none_loose cell.head.ports (flat_map nodes_of cell.cards) (by cell.cards (loose_port cell) e) port at) where
  by : (cards : List Body) (o : Option (List ℕ)) → is_searched (uses_else (empty_else cards (option_map loose o)) b) ≡ true → o ≡ None
  by [] o f = absurd cc
  by (x ∷ xs) None f = refl
  by (x ∷ xs) (Some p) f = absurd cc

zip_on : (subs xs : List Sub) → AllByRecursion (λ (z : Sub × Cell). is_searched z.1.skip ≡ true → PortsOn z.0) (zip xs (map (cell_of subs) xs))
zip_on subs [] = tt
zip_on subs (x ∷ xs) = (λ e. not_loose x _ e, zip_on subs xs)

-- each port of a searched cell stands on a card
pub searched_on : (run : Run) (level : ℕ) → IsTold run → AllByRecursion PortsOn (searched_at run level)
searched_on run level told =
    let subs = run.library.deck.subs in
    let Q : Sub × Cell → Type 0 = λ z. is_searched z.1.skip ≡ true → PortsOn z.0 in
    let all : AllByRecursion Q (zip subs run.library.cells) = subst (λ (cs : List Cell). AllByRecursion Q (zip subs cs)) (sym told) (zip_on subs subs) in
    map_first PortsOn _ (all_that (λ (z : Sub × Cell). PortsOn z.0) (λ (z : Sub × Cell). is_searched z.1.skip) (cells_at level run.library) (all_filter Q _ (zip subs run.library.cells) all))

-- ---- roles

-- a port is not inner
port_role : (rails ports : List (List ℕ)) (name : List ℕ) → Contains ports name → role_of rails ports name ≡ Inner → ⊥
port_role rails ports name at e = by (position (same_text name) (all_rails rails)) (position (same_text name) ports) (position_or_len (same_text name) ports) (onces.position_there same_text exact itself ports name at) e where
  by : (a b : Option ℕ) (k : ℕ) → b ≡ Some k → role_by a b ≡ Inner → ⊥
  by (Some r) b k f g = absurd cc
  by None (Some p) k f g = absurd cc
  by None None k f g = absurd cc

-- names that differ, beside something
once_first : (xs : List (List ℕ)) (ys : List ℕ) → Once xs → Once (map (λ (z : List ℕ × ℕ). z.0) (zip xs ys))
once_first [] ys o = tt
once_first (x ∷ xs) [] o = tt
once_first (x ∷ xs) (y ∷ ys) o = ((λ at. o.0 (inside xs ys x at)), once_first xs ys o.1) where
  inside : (xs : List (List ℕ)) (ys : List ℕ) (x : List ℕ) → Contains (map (λ (z : List ℕ × ℕ). z.0) (zip xs ys)) x → Contains xs x
  inside [] ys x at = absurd (in_none x at)
  inside (a ∷ xs) [] x at = absurd (in_none x at)
  inside (a ∷ xs) (b ∷ ys) x at = elim (in_cons a (map (λ (z : List ℕ × ℕ). z.0) (zip xs ys)) x at) [ inl same ↦ subst (λ y. Contains (a ∷ xs) y) same (in_head a xs) | inr later ↦ in_tail a xs x (inside xs ys x later) ]

-- ---- a lawful instance

whole_at : (run : Run) (stage : Stage) → AllByRecursion (SlotFrom run stage.composites) stage.slots → (d : ℕ) → d < length (circuit_at run stage).devices → length (device_at (circuit_at run stage).devices d).nets ≡ length (shape_at (circuit_at run stage) (device_at (circuit_at run stage).devices d).kind)
whole_at run stage slots d lt = (slot_from run stage.composites stage.slots d lt slots).1

shape_there : (run : Run) (shaped : IsShaped run) (stage : Stage) (ch : Chosen) → Contains run.library.deck.subs ch.cell → IsLawfulOne (circuit_at run stage) run ch.cell ch.instance → (card : Body) (spot : Spot) → Contains (zip ch.cell.cards ch.instance.least) (card, spot)
    → shape_at (circuit_at run stage) (device_at (circuit_at run stage).devices spot.dev).kind ≡ classes_of (card_type run.source card)
shape_there run shaped stage ch known law card spot k =
    let suits = card_suits (circuit_at run stage) run (cell_nets ch.cell) ch.cell.cards ch.instance.least card spot law.0.consistent.suit k in
    ap (shape_at (circuit_at run stage)) suits.kind ∙ shape_of run (card_type run.source card) (shaped.known ch.cell card known (card_there ch.cell.cards ch.instance.least card spot k))

-- rails go home
pub home_rails : (run : Run) (shaped : IsShaped run) (stage : Stage) (ch : Chosen) → Contains run.library.deck.subs ch.cell → IsLawfulOne (circuit_at run stage) run ch.cell ch.instance → AllByRecursion (SlotFrom run stage.composites) stage.slots
    → (name : List ℕ) (r : ℕ) → Contains (cell_nets ch.cell) name → role_of run.source.rails ch.cell.head.ports name ≡ Rail r → slice_get (first_circuit run).rails r ≡ Some (Some (net_image (composite_of (circuit_at run stage) stage.slots run ch) name))
home_rails run shaped stage ch known law slots = rail_home (circuit_at run stage) stage.slots run ch law.0 (whole_at run stage slots) (shape_there run shaped stage ch known law) (λ card at. shaped.nodes ch.cell card known at)

-- each image stands on a device of the circuit
pub images_on : (run : Run) (shaped : IsShaped run) (stage : Stage) (ch : Chosen) → Contains run.library.deck.subs ch.cell → IsLawfulOne (circuit_at run stage) run ch.cell ch.instance → AllByRecursion (SlotFrom run stage.composites) stage.slots
    → (name : List ℕ) → Contains (cell_nets ch.cell) name → (k : ℕ) × (k < length stage.slots) × Contains (device_at (circuit_at run stage).devices k).nets (net_image (composite_of (circuit_at run stage) stage.slots run ch) name)
images_on run shaped stage ch known law slots name at =
    let r = image_on (circuit_at run stage) stage.slots run ch law.0 (whole_at run stage slots) (shape_there run shaped stage ch known law) (λ card at. shaped.nodes ch.cell card known at) name at in
    (r.0.dev, omega (arith, r.2, length-map stage.slots (λ (t : Slot). t.device)), r.3)

-- its composite has its inner nets for itself
pub own_nets : (run : Run) (shaped : IsShaped run) (stage : Stage) (ch : Chosen) → Contains run.library.deck.subs ch.cell → PortsOn ch.cell → IsLawfulOne (circuit_at run stage) run ch.cell ch.instance → AllByRecursion (SlotFrom run stage.composites) stage.slots
    → HasOwnNets run (is_rail_net (circuit_at run stage)) stage.slots (composite_of (circuit_at run stage) stage.slots run ch)
own_nets run shaped stage ch known ports law slots =
    let c = circuit_at run stage in
    let comp = composite_of c stage.slots run ch in
    let s = run.source in
    let n = length c.devices in
    let whole = whole_at run stage slots in
    let shapes = shape_there run shaped stage ch known law in
    let nodes : (card : Body) → Contains ch.cell.cards card → length (nodes_of card) ≡ length (classes_of (card_type run.source card)) = λ card at. shaped.nodes ch.cell card known at in
    let devs = map (λ (x : Spot). x.dev) ch.instance.least in
    let long : n ≡ length stage.slots = length-map stage.slots (λ (t : Slot). t.device) in
    let set_has : (k : ℕ) → k < n → Contains devs k → is_in comp.key.set k ≡ true = λ k lt at. ap (λ (y : Key). is_in y.set k) (sym law.1) ∙ ascending_has n devs k lt ∙ has devs k at in
    let on : (i : ℕ) (name : List ℕ) → Contains (cell_nets ch.cell) name → net_image comp name ≡ i → (k : ℕ) × (k < length stage.slots) × Contains (device_at c.devices k).nets i × (is_in comp.key.set k ≡ true) = λ i name at e.
    let r = image_on c stage.slots run ch law.0 whole shapes nodes name at in
    (r.0.dev, omega (arith, r.2, long), subst (λ m. Contains (device_at c.devices r.0.dev).nets m) e r.3, set_has r.0.dev r.2 (in_map (λ (x : Spot). x.dev) ch.instance.least r.0 r.1)) in
    let one = one_image c stage.slots run ch law.0 whole shapes nodes in
    record {
      once = λ i. rows_one s.rails ch.cell.head.ports [] i (zip (cell_nets ch.cell) comp.images) (once_first (cell_nets ch.cell) comp.images (each_once (flat_map nodes_of ch.cell.cards))) (λ x y ax ay ex ey.
          let bx = image_beside comp x ax in
          let by = image_beside comp y ay in
          one x.0 y.0 bx.0 by.0 (bx.1 ∙ ex ∙ sym (by.1 ∙ ey)));
      on = λ i some. let r = inner_name s i comp some in on i r.0 r.1 r.3;
      only = λ i some k lt at. let r = inner_name s i comp some in set_has k (omega (arith, lt, long)) (inner_device c stage.slots run ch law.0 whole shapes nodes r.0 r.1 r.2 k (omega (arith, lt, long)) (subst (λ m. Contains (device_at c.devices k).nets m) (sym r.3) at));
      no_rail = λ i some. let r = inner_name s i comp some in ap (is_rail_net c) (sym r.3) ∙ (inner_within c stage.slots run ch law.0 whole shapes nodes r.0 r.1 r.2).rail;
      bound = λ i at. let p = from_map (net_image comp) ch.cell.head.ports i (subst (λ (b : List ℕ). Contains b i) (binding_meets c stage.slots run ch law.0 law.1 ports) at) in on i p.0 (ports p.0 p.1) p.2;
      not_bound = λ i some at.
          let r = inner_name s i comp some in
          let p = from_map (net_image comp) ch.cell.head.ports i (subst (λ (b : List ℕ). Contains b i) (binding_meets c stage.slots run ch law.0 law.1 ports) at) in
          let same = one p.0 r.0 (ports p.0 p.1) r.1 (p.2 ∙ sym r.3) in
          port_role s.rails ch.cell.head.ports p.0 p.1 (ap (role_of s.rails ch.cell.head.ports) same ∙ r.2);
    }
