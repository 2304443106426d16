-- In a lawful history each card of each composite was matched with a device of its type, an original one or a composite's.
use Rattle.std.proofs.Common.{◌≡◌, ◌<◌, ◌∙◌, ◌+◌, ℕ, zero, suc, List, [], ◌∷◌, ◌++◌, length, map, refl, sym, ap, subst, arith}
use Rattle.std.specs.Prelude.{Contains, flat_map, zip}
use Rattle.std.specs.List.{AllByRecursion, enumerate_from}
use Rattle.std.proofs.lemmas.List.{length-map}
use Rattle.std.proofs.lemmas.List.Elements.{Contains-append_left, Contains-append_right}
use Rattle.gl_text.specs.Decks.{Body}
use Rattle.gl_match.proofs.Lists.{in_head, in_tail}
use Rattle.gl_match.specs.declared.spot.Spot.{Spot}
use Rattle.gl_match.specs.Graph.{Device, Circuit, device_at, shape_at}
use Rattle.gl_match.specs.LegalMaps.{pairs_of}
use Rattle.gl_match.specs.Keys.{port_image}
use Rattle.gl_base.specs.TypeNames.{classes_of}
use Rattle.gl_base.specs.BaseCircuit.{net_number}
use Rattle.gl_lifting.specs.Runs.{Run, card_type, cell_nets, pattern_in, searched_at, first_circuit}
use Rattle.gl_lifting.specs.Replacement.{Origin, base, made, Slot, Part, Chosen, Composite, origin_at, composite_of, composite_slot}
use Rattle.gl_lifting.specs.Histories.{Stage, Round, History, IsLawfulRound, IsLawful, IsRoundAt, Follow, circuit_at, first_stage, chosen_in, composites_of, stage_behind}
use Rattle.gl_lifting.specs.Meeting.{IsShaped, IsFrom, IsMatched, AreMatched, IsBound}
use Rattle.gl_lifting.proofs.EachLaws.{all_append}
use Rattle.gl_lifting.proofs.ChosenLaws.{IsLawfulOne}
use Rattle.gl_lifting.proofs.StageLaws.{round_chosen}
use Rattle.gl_lifting.proofs.MadeLaws.{places_all, all_cells, searched_in}
use Rattle.gl_lifting.proofs.MeetLaws.{card_suits, card_there, back_meets, back_inside, binding_meets}
use Rattle.gl_lifting.proofs.LineBackLaws.{shape_of, ports_of_shape}

-- a slot is what its origin says, and has so many nets as its shape
abbrev pub SlotFrom : Run → List Composite → Slot → Type 0
SlotFrom run cs s = IsFrom run cs s.origin s.device × (length s.device.nets ≡ length (shape_at (first_circuit run) s.device.kind))

-- what a device is from stays with more composites
from_more : (run : Run) (cs new : List Composite) (o : Origin) (d : Device) → IsFrom run cs o d → IsFrom run (cs ++ new) o d
from_more run cs new (base dev) d h = h
from_more run cs new (made q) d h = (h.0, Contains-append_left cs new h.0 h.1, h.2, h.3)

slots_more : (run : Run) (cs new : List Composite) (slots : List Slot) → AllByRecursion (SlotFrom run cs) slots → AllByRecursion (SlotFrom run (cs ++ new)) slots
slots_more run cs new [] h = tt
slots_more run cs new (s ∷ ss) h = ((from_more run cs new s.origin s.device h.0.0, h.0.1), slots_more run cs new ss h.1)

-- a matched card stays matched
matched_more : (run : Run) (cs new : List Composite) (c : Composite) (zs : List (Body × Part)) → AllByRecursion (λ (z : Body × Part). IsMatched run cs c z.0 z.1) zs → AllByRecursion (λ (z : Body × Part). IsMatched run (cs ++ new) c z.0 z.1) zs
matched_more run cs new c [] h = tt
matched_more run cs new c (z ∷ zs) h = (record { device = h.0.device; from = from_more run cs new z.1.origin h.0.device h.0.from; kind = h.0.kind; nets = h.0.nets; inside = h.0.inside }, matched_more run cs new c zs h.1)

all_more : (run : Run) (all new cs : List Composite) → AreMatched run all cs → AreMatched run (all ++ new) cs
all_more run all new [] h = tt
all_more run all new (c ∷ cs) h = (matched_more run all new c (zip c.cell.cards c.parts) h.0, all_more run all new cs h.1)

-- the device at a place is what the origin at the place says
pub slot_from : (run : Run) (cs : List Composite) (slots : List Slot) (dev : ℕ) → dev < length (map (λ (s : Slot). s.device) slots) → AllByRecursion (SlotFrom run cs) slots
    → IsFrom run cs (origin_at slots dev) (device_at (map (λ (s : Slot). s.device) slots) dev) × (length (device_at (map (λ (s : Slot). s.device) slots) dev).nets ≡ length (shape_at (first_circuit run) (device_at (map (λ (s : Slot). s.device) slots) dev).kind))
slot_from run cs [] dev lt h = absurd (omega (arith, lt))
slot_from run cs (s ∷ ss) zero lt h = h.0
slot_from run cs (s ∷ ss) (suc dev) lt h = slot_from run cs ss dev (omega (arith, lt)) h.1

abbrev part_at : List Slot → Spot → Part
part_at slots s = record { turn = s.turn; origin = origin_at slots s.dev }

-- cards beside parts, by cards beside spots
zip_parts : (slots : List Slot) (P : Body → Part → Type 0) (cards : List Body) (spots : List Spot) → ((card : Body) (spot : Spot) → Contains (zip cards spots) (card, spot) → P card (part_at slots spot)) → AllByRecursion (λ (z : Body × Part). P z.0 z.1) (zip cards (map (part_at slots) spots))
zip_parts slots P [] spots h = tt
zip_parts slots P (x ∷ xs) [] h = tt
zip_parts slots P (x ∷ xs) (s ∷ ss) h = (h x s (in_head (x, s) (zip xs ss)), zip_parts slots P xs ss (λ card spot k. h card spot (in_tail (x, s) (zip xs ss) (card, spot) k)))

-- the composite of a chosen instance is matched
one_matched : (run : Run) (shaped : IsShaped run) (stage : Stage) (ch : Chosen) → Contains run.library.deck.subs ch.cell → IsLawfulOne (circuit_at run stage) run ch.cell ch.instance → AllByRecursion (SlotFrom run stage.composites) stage.slots
    → AllByRecursion (λ (z : Body × Part). IsMatched run stage.composites (composite_of (circuit_at run stage) stage.slots run ch) z.0 z.1) (zip ch.cell.cards (map (part_at stage.slots) ch.instance.least))
one_matched run shaped stage ch known law slots =
    let c = circuit_at run stage in
    let own = composite_of c stage.slots run ch in
    zip_parts stage.slots (IsMatched run stage.composites own) ch.cell.cards ch.instance.least (λ card spot k.
    let suits = card_suits c run (cell_nets ch.cell) ch.cell.cards ch.instance.least card spot law.0.consistent.suit k in
    let in_cell = card_there ch.cell.cards ch.instance.least card spot k in
    let from = slot_from run stage.composites stage.slots spot.dev suits.device slots in
    let shape : shape_at c (device_at c.devices spot.dev).kind ≡ classes_of (card_type run.source card) = ap (shape_at c) suits.kind ∙ shape_of run (card_type run.source card) (shaped.known ch.cell card known in_cell) in
    record {
      device = device_at c.devices spot.dev;
      from = from.0;
      kind = suits.kind;
      nets = back_meets c stage.slots run ch law.0 card spot k shape (shaped.nodes ch.cell card known in_cell) (from.1 ∙ ap length shape);
      inside = back_inside c stage.slots run ch law.0 card spot k shape (shaped.nodes ch.cell card known in_cell);
    })

made_matched : (run : Run) (shaped : IsShaped run) (stage : Stage) (chosen : List Chosen) → AllByRecursion (λ (ch : Chosen). Contains run.library.deck.subs ch.cell) chosen → AllByRecursion (λ (ch : Chosen). IsLawfulOne (circuit_at run stage) run ch.cell ch.instance) chosen → AllByRecursion (SlotFrom run stage.composites) stage.slots
    → AreMatched run stage.composites (map (composite_of (circuit_at run stage) stage.slots run) chosen)
made_matched run shaped stage [] known law slots = tt
made_matched run shaped stage (d ∷ ds) known law slots = (one_matched run shaped stage d known.0 law.0 slots, made_matched run shaped stage ds known.1 law.1 slots)

-- a composite's device is from it, with a net for each port
made_from : (run : Run) (shaped : IsShaped run) (stage : Stage) (all : List Composite) (chosen : List Chosen) → AllByRecursion (λ (ch : Chosen). Contains run.library.deck.subs ch.cell) chosen → AllByRecursion (λ (ch : Chosen). IsLawfulOne (circuit_at run stage) run ch.cell ch.instance) chosen
    → ((c : Composite) → Contains (map (composite_of (circuit_at run stage) stage.slots run) chosen) c → Contains all c) → AllByRecursion (λ (c : Composite). SlotFrom run all (composite_slot run c)) (map (composite_of (circuit_at run stage) stage.slots run) chosen)
made_from run shaped stage all [] known law inside = tt
made_from run shaped stage all (d ∷ ds) known law inside =
    let c = circuit_at run stage in
    let own = composite_of c stage.slots run d in
    let others = map (composite_of c stage.slots run) ds in
    let p = pattern_in run d.cell in
    let long : length d.instance.key.binding ≡ length d.cell.head.ports = ap (λ k. length k.binding) (sym law.0.1) ∙ length-map p.ports (port_image (pairs_of c p.devices d.instance.least)) ∙ length-map d.cell.head.ports (net_number (cell_nets d.cell)) in
    (((own, inside own (in_head own others), refl, refl), long ∙ ports_of_shape run d.cell known.0), made_from run shaped stage all ds known.1 law.1 (λ x k. inside x (in_tail own others x k)))

-- and its ports go to its binding
made_bound : (run : Run) (c : Circuit) (slots : List Slot) (chosen : List Chosen) → AllByRecursion (λ (ch : Chosen). IsLawfulOne c run ch.cell ch.instance) chosen → AllByRecursion IsBound (map (composite_of c slots run) chosen)
made_bound run c slots [] law = tt
made_bound run c slots (d ∷ ds) law = (binding_meets c slots run d law.0.0 law.0.1, made_bound run c slots ds law.1)

-- ---- histories

pub record IsMatchedWell (run : Run) (s : Stage) : Type 0 where
  pub slots : AllByRecursion (SlotFrom run s.composites) s.slots
  pub composites : AreMatched run s.composites s.composites
  pub bound : AllByRecursion IsBound s.composites

pub one_round : (run : Run) (shaped : IsShaped run) (level : ℕ) (stage : Stage) (r : Round) → IsMatchedWell run stage → IsRoundAt IsLawfulRound run level stage r → IsMatchedWell run (stage_behind run (searched_at run level) r)
one_round run shaped level stage r before h =
    let w : IsMatchedWell run r.before = subst (λ (s : Stage). IsMatchedWell run s) (sym h.begins) before in
    let cells = searched_at run level in
    let s = r.before in
    let new = composites_of run cells r in
    let chosen = flat_map chosen_in (zip cells (zip r.lists r.picks)) in
    let all = s.composites ++ new in
    let well = round_chosen run level stage r h in
    let known = all_cells (Contains run.library.deck.subs) cells r.lists r.picks (searched_in run level) in
    record {
      slots = places_all (SlotFrom run all) run new 0 s.slots (made_from run shaped s all chosen known well.lawful (λ c k. Contains-append_right s.composites new c k)) (slots_more run s.composites new s.slots w.slots);
      composites = all_append (λ (c : Composite). AllByRecursion (λ (z : Body × Part). IsMatched run all c z.0 z.1) (zip c.cell.cards c.parts)) s.composites new (all_more run s.composites new s.composites w.composites) (all_more run s.composites new new (made_matched run shaped s chosen known well.lawful w.slots));
      bound = all_append IsBound s.composites new w.bound (made_bound run (circuit_at run s) s.slots chosen well.lawful);
    }

all_rounds : (run : Run) (shaped : IsShaped run) (level : ℕ) (stage last : Stage) (rounds : List Round) → IsMatchedWell run stage → Follow IsLawfulRound run level stage rounds last → IsMatchedWell run last
all_rounds run shaped level stage last [] w h = subst (λ (s : Stage). IsMatchedWell run s) (sym h) w
all_rounds run shaped level stage last (r ∷ rounds) w h = all_rounds run shaped (suc level) (stage_behind run (searched_at run level) r) last rounds (one_round run shaped level stage r w h.0) h.1

-- at first each device is the original one of its place
pub first_from : (run : Run) (k : ℕ) (devices : List Device) → ((i : ℕ) → i < length devices → device_at devices i ≡ device_at (first_circuit run).devices (k + i)) → AllByRecursion (λ (d : Device). length d.nets ≡ length (shape_at (first_circuit run) d.kind)) devices
    → AllByRecursion (SlotFrom run []) (map (λ (n : ℕ × Device). record { device = n.1; origin = base n.0 }) (enumerate_from k devices))
first_from run k [] same h = tt
first_from run k (d ∷ ds) same h = (
  (same 0 (omega arith) ∙ ap (device_at (first_circuit run).devices) (let e : k + 0 ≡ k = omega arith in e), h.0),
  first_from run (k + 1) ds (λ i lt. same (suc i) (omega (arith, lt)) ∙ ap (device_at (first_circuit run).devices) (let e : k + suc i ≡ k + 1 + i = omega arith in e)) h.1,
)

pub matched_well : (run : Run) (h : History) → IsShaped run → IsLawful run h → IsMatchedWell run h.last
matched_well run h shaped lawful =
    let devices = (first_circuit run).devices in
    all_rounds run shaped 0 (first_stage run) h.last h.rounds (record { slots = first_from run 0 devices (λ i lt. ap (device_at devices) (let e : i ≡ 0 + i = omega arith in e)) shaped.devices; composites = tt; bound = tt }) lawful.follow
