-- Over all rounds of a lawful history: inner nets are apart, rails go home, and ports stand on cards.
use Rattle.std.proofs.Common.{◌≡◌, ◌<◌, ◌≤◌, ◌∙◌, ◌+◌, ℕ, zero, suc, List, [], ◌∷◌, ◌++◌, length, map, Bool, false, Some, sym, ap, subst, arith, inl, inr, flat_map}
use Rattle.std.specs.Prelude.{Contains, zip, slice_get}
use Rattle.std.specs.List.{AllByRecursion, enumerate_from, range_with_len}
use Rattle.std.proofs.lemmas.List.{length-map}
use Rattle.std.proofs.lemmas.List.FromFn.{length-range_with_len}
use Rattle.std.proofs.lemmas.Bool.{cases_lt}
use Rattle.gl_match.specs.declared.role.Role.TheVariants.{Rail}
use Rattle.gl_match.specs.Graph.{Device, device_at, is_rail_net}
use Rattle.gl_match.specs.Keys.{port_image}
use Rattle.gl_match.specs.LegalMaps.{pairs_of}
use Rattle.gl_match.proofs.Lists.{in_head, in_tail, from_map}
use Rattle.gl_text.specs.LogicalLines.{same_text}
use Rattle.gl_text.specs.Cards.{Device as Card}
use Rattle.gl_base.specs.BaseCircuit.{nets_of, net_number, device_of}
use Rattle.gl_base.proofs.OnceLaws.{place_within}
use Rattle.gl_base.proofs.TextLaws.{exact, itself, node_is_net}
use Rattle.gl_base.specs.Patterns.{role_of}
use Rattle.gl_lifting.specs.Runs.{Run, cell_nets, pattern_in, searched_at, first_circuit}
use Rattle.gl_lifting.specs.Replacement.{base, Slot, Chosen, Composite, composite_of, composite_slot, replaced}
use Rattle.gl_lifting.specs.Histories.{Stage, Round, History, IsLawfulRound, IsLawful, IsRoundAt, Follow, circuit_at, first_stage, chosen_in, composites_of, stage_behind}
use Rattle.gl_lifting.specs.Meeting.{IsShaped}
use Rattle.gl_lifting.specs.Pairing.{net_image}
use Rattle.gl_lifting.proofs.EachLaws.{all_append}
use Rattle.gl_lifting.proofs.ChosenLaws.{IsLawfulOne}
use Rattle.gl_lifting.proofs.StageLaws.{apart_all, round_chosen}
use Rattle.gl_lifting.proofs.MadeLaws.{all_cells, made_cells, places_all, searched_in}
use Rattle.gl_lifting.proofs.Weights.{AllApart}
use Rattle.gl_lifting.proofs.FlatCardLaws.{in_each}
use Rattle.gl_lifting.proofs.StandLaws.{IsTold}
use Rattle.gl_lifting.proofs.MatchedLaws.{SlotFrom, IsMatchedWell, one_round, first_from}
use Rattle.gl_lifting.proofs.InnerRowLaws.{inner_sum, sum-append}
use Rattle.gl_lifting.proofs.SeparateLaws.{HasOwnNets, IsFree, slot_device, sum_some, new_once, new_free, old_free}
use Rattle.gl_lifting.proofs.OwnNetLaws.{PortsOn, searched_on, own_nets, home_rails, images_on}

-- a name that is a rail goes to the rail of its name
abbrev pub RailsHome : Run → Composite → Type 0
RailsHome run c = (name : List ℕ) (r : ℕ) → Contains (cell_nets c.cell) name → role_of run.source.rails c.cell.head.ports name ≡ Rail r → slice_get (first_circuit run).rails r ≡ Some (Some (net_image c name))

-- a net is inner to one composite at most, and then stands on no device and is no rail's
pub record IsSeparate (run : Run) (i : ℕ) (s : Stage) : Type 0 where
  pub once : inner_sum run.source i s.composites ≤ 1
  pub free : 1 ≤ inner_sum run.source i s.composites → IsFree i s.slots
  pub no_rail : 1 ≤ inner_sum run.source i s.composites → is_rail_net (first_circuit run) i ≡ false

-- a composite has an image for each net of its cell, which is a net of the first circuit
pub record HasImages (run : Run) (c : Composite) : Type 0 where
  pub long : length c.images ≡ length (cell_nets c.cell)
  pub low : (name : List ℕ) → Contains (cell_nets c.cell) name → net_image c name < length (nets_of run.source.devices)

-- the nets of slots are those of the first circuit
abbrev pub AreLow : Run → List Slot → Type 0
AreLow run slots = AllByRecursion (λ (t : Slot). (i : ℕ) → Contains t.device.nets i → i < length (nets_of run.source.devices)) slots

pub record IsSeparated (run : Run) (s : Stage) : Type 0 where
  pub nets : (i : ℕ) → IsSeparate run i s
  pub low : AreLow run s.slots
  pub images : AllByRecursion (HasImages run) s.composites
  pub rails : AllByRecursion (RailsHome run) s.composites
  pub ports : AllByRecursion (λ (c : Composite). PortsOn c.cell) s.composites

-- what holds of each chosen instance's composite
made_own : (run : Run) (shaped : IsShaped run) (stage : Stage) (chosen : List Chosen) → AllByRecursion (λ (ch : Chosen). Contains run.library.deck.subs ch.cell) chosen → AllByRecursion (λ (ch : Chosen). PortsOn ch.cell) chosen → AllByRecursion (λ (ch : Chosen). IsLawfulOne (circuit_at run stage) run ch.cell ch.instance) chosen
    → AllByRecursion (SlotFrom run stage.composites) stage.slots → AllByRecursion (HasOwnNets run (is_rail_net (circuit_at run stage)) stage.slots) (map (composite_of (circuit_at run stage) stage.slots run) chosen) × AllByRecursion (RailsHome run) (map (composite_of (circuit_at run stage) stage.slots run) chosen)
made_own run shaped stage [] known ports law slots = (tt, tt)
made_own run shaped stage (d ∷ ds) known ports law slots =
    let later = made_own run shaped stage ds known.1 ports.1 law.1 slots in
    ((own_nets run shaped stage d known.0 ports.0 law.0 slots, later.0), (home_rails run shaped stage d known.0 law.0 slots, later.1))

-- slots with low nets give images that are low
low_at : (run : Run) (slots : List Slot) → AreLow run slots → (k : ℕ) → k < length slots → (i : ℕ) → Contains (slot_device slots k).nets i → i < length (nets_of run.source.devices)
low_at run [] h k lt i at = absurd (omega (arith, lt))
low_at run (t ∷ ts) h zero lt i at = h.0 i at
low_at run (t ∷ ts) h (suc k) lt i at = low_at run ts h.1 k (omega (arith, lt)) i at

made_images : (run : Run) (shaped : IsShaped run) (stage : Stage) (chosen : List Chosen) → AllByRecursion (λ (ch : Chosen). Contains run.library.deck.subs ch.cell) chosen → AllByRecursion (λ (ch : Chosen). IsLawfulOne (circuit_at run stage) run ch.cell ch.instance) chosen → AllByRecursion (SlotFrom run stage.composites) stage.slots → AreLow run stage.slots
    → AllByRecursion (HasImages run) (map (composite_of (circuit_at run stage) stage.slots run) chosen)
made_images run shaped stage [] known law slots low = tt
made_images run shaped stage (d ∷ ds) known law slots low =
    let c = circuit_at run stage in
    let p = pattern_in run d.cell in
    let long = length-map (range_with_len 0 (length p.roles)) (port_image (pairs_of c p.devices d.instance.least)) ∙ length-range_with_len 0 (length p.roles) ∙ length-map (cell_nets d.cell) (role_of run.source.rails d.cell.head.ports) in (
      record {
        long = long;
        low = λ name at. let r = images_on run shaped stage d known.0 law.0 slots name at in low_at run stage.slots low r.0 r.1 (net_image (composite_of c stage.slots run d) name) r.2;
      },
      made_images run shaped stage ds known.1 law.1 slots low,
    )

-- so bindings are
new_low : (run : Run) (rail : ℕ → Bool) (slots : List Slot) (cs : List Composite) → AreLow run slots → AllByRecursion (HasOwnNets run rail slots) cs → AllByRecursion (λ (c : Composite). (i : ℕ) → Contains (composite_slot run c).device.nets i → i < length (nets_of run.source.devices)) cs
new_low run rail slots [] low h = tt
new_low run rail slots (c ∷ cs) low h = ((λ i at. let b = h.0.bound i at in low_at run slots low b.0 b.1 i b.2), new_low run rail slots cs low h.1)

first_low : (run : Run) (k : ℕ) (ds : List Card) → ((d : Card) → Contains ds d → Contains run.source.devices d) → AreLow run (map (λ (n : ℕ × Device). record { device = n.1; origin = base n.0 }) (enumerate_from k (map (device_of run.source (nets_of run.source.devices)) ds)))
first_low run k [] inside = tt
first_low run k (d ∷ ds) inside = (
  (λ i at. let r = from_map (net_number (nets_of run.source.devices)) d.nodes i at in subst (λ n. n < length (nets_of run.source.devices)) r.2 (place_within same_text exact itself (nets_of run.source.devices) r.0 (node_is_net run.source.devices d r.0 (inside d (in_head d ds)) r.1))),
  first_low run (k + 1) ds (λ e at. inside e (in_tail d ds e at)),
)

-- one net over one round
net_round : (run : Run) (i : ℕ) (s : Stage) (new : List Composite) → IsSeparate run i s → AllByRecursion (HasOwnNets run (is_rail_net (first_circuit run)) s.slots) new → AllApart new
    → IsSeparate run i (record { slots = replaced run new s.slots; composites = s.composites ++ new })
net_round run i s new before own apart =
    let src = run.source in
    let sum = sum-append src i s.composites new in
    elim (cases_lt 0 (inner_sum src i s.composites)) [
      | inl old ↦
          let f = old_free run (is_rail_net (first_circuit run)) s.slots i new own (before.free (omega (arith, old))) in
          record { once = omega (arith, sum, f.1, before.once); free = λ le. f.0; no_rail = λ le. before.no_rail (omega (arith, old)) }
      | inr none ↦ record {
        once = omega (arith, sum, none, new_once run (is_rail_net (first_circuit run)) s.slots i new apart own);
        free = λ le. new_free run (is_rail_net (first_circuit run)) s.slots i new apart own (omega (arith, sum, none, le));
        no_rail = λ le. let r = sum_some src i new (omega (arith, sum, none, le)) in (in_each (HasOwnNets run (is_rail_net (first_circuit run)) s.slots) new r.0 own r.1).no_rail i r.2;
      }
    ]

-- all of one round
round_separated : (run : Run) (shaped : IsShaped run) (level : ℕ) (stage : Stage) (r : Round) → IsTold run → IsMatchedWell run stage → IsSeparated run stage → IsRoundAt IsLawfulRound run level stage r → IsSeparated run (stage_behind run (searched_at run level) r)
round_separated run shaped level stage r told matched before h =
    let w : IsMatchedWell run r.before = subst (λ (s : Stage). IsMatchedWell run s) (sym h.begins) matched in
    let b : IsSeparated run r.before = subst (λ (s : Stage). IsSeparated run s) (sym h.begins) before in
    let cells = searched_at run level in
    let s = r.before in
    let chosen = flat_map chosen_in (zip cells (zip r.lists r.picks)) in
    let new = composites_of run cells r in
    let well = round_chosen run level stage r h in
    let ports = searched_on run level told in
    let own = made_own run shaped s chosen (all_cells (Contains run.library.deck.subs) cells r.lists r.picks (searched_in run level)) (all_cells PortsOn cells r.lists r.picks ports) well.lawful w.slots in
    let apart = apart_all (circuit_at run s) s.slots run chosen well.apart in
    record {
      nets = λ i. net_round run i s new (b.nets i) own.0 apart;
      low = places_all (λ (t : Slot). (i : ℕ) → Contains t.device.nets i → i < length (nets_of run.source.devices)) run new 0 s.slots (new_low run (is_rail_net (first_circuit run)) s.slots new b.low own.0) b.low;
      images = all_append (HasImages run) s.composites new b.images (made_images run shaped s chosen (all_cells (Contains run.library.deck.subs) cells r.lists r.picks (searched_in run level)) well.lawful w.slots b.low);
      rails = all_append (RailsHome run) s.composites new b.rails own.1;
      ports = all_append (λ (c : Composite). PortsOn c.cell) s.composites new b.ports (made_cells PortsOn (circuit_at run s) s.slots run chosen (all_cells PortsOn cells r.lists r.picks ports));
    }

all_separated : (run : Run) (shaped : IsShaped run) (level : ℕ) (stage last : Stage) (rounds : List Round) → IsTold run → IsMatchedWell run stage → IsSeparated run stage → Follow IsLawfulRound run level stage rounds last → IsSeparated run last
all_separated run shaped level stage last [] told matched before h = subst (λ (s : Stage). IsSeparated run s) (sym h) before
all_separated run shaped level stage last (r ∷ rounds) told matched before h =
    all_separated run shaped (suc level) (stage_behind run (searched_at run level) r) last rounds told (one_round run shaped level stage r matched h.0) (round_separated run shaped level stage r told matched before h.0) h.1

-- of a lawful history
pub history_separated : (run : Run) (h : History) → IsShaped run → IsTold run → IsLawful run h → IsSeparated run h.last
history_separated run h shaped told lawful =
    let devices = (first_circuit run).devices in
    all_separated run shaped 0 (first_stage run) h.last h.rounds told
    (record { slots = first_from run 0 devices (λ i lt. ap (device_at devices) (let e : i ≡ 0 + i = omega arith in e)) shaped.devices; composites = tt; bound = tt })
    (record { nets = λ i. record { once = omega arith; free = λ le. absurd (omega (arith, le)); no_rail = λ le. absurd (omega (arith, le)) }; low = first_low run 0 run.source.devices (λ d at. at); images = tt; rails = tt; ports = tt }) lawful.follow
