use Rattle.std.proofs.Common.{◌≡◌, ◌∙◌, [], List, length, map, sym, ap, subst, arith}
use Rattle.std.specs.Prelude.{All}
use Rattle.std.proofs.lemmas.List.{length-map}
use Rattle.gl_match.specs.Graph.{Circuit}
use Rattle.gl_lifting.specs.Replacement.{Slot}
use Rattle.gl_history.specs.declared.fate.Fate.{Fate}
use Rattle.gl_history.specs.Plain.{Lifted, origin_value}
use Rattle.gl_history.specs.Replacing.{Chosen, chosen_of, slots_of}
use Rattle.gl_history.specs.Marks.{IsMarked, IsWithin, all_slots_by}
use Rattle.gl_history.specs.Reached.{slots_behind}
use Rattle.gl_history.proofs.MarkLaws.{slots_are_after}
use Rattle.gl_history.proofs.SlotLaws.{slots_long}
use Rattle.gl_history.proofs.HistoryLaws.{with_devices}
use Rattle.gl_graph.specs.Built.{IsBuilt}
use Rattle.gl_graph.specs.Faults.{circuit_fault}
use Rattle.gl_history.proofs.SoundLaws.{behind_unrefused}
use Rattle.gl_history.proofs.LeftLaws.{known, below, picked, all_within}
use Rattle.gl_history.proofs.lift.left_by.Goals as goal

pub add_round-requires-clause-known : goal.add_round-requires-clause-known
add_round-requires-clause-known c = known c.args.before.now.last _ c.requires.found.0 c.args.cells.now c.args.found.now c.requires.found.1

pub add_round-requires-clause-below : goal.add_round-requires-clause-below
add_round-requires-clause-below c =
    let long = c.in_ok-marks.ensures.devices ∙ c.devices.ensures.count ∙ ap (λ (l : Lifted). length l.last.devices) c.before-2.view_is in
    below c.args.before.now.last _ c.requires.found.0 c.args.cells.now c.args.found.now c.requires.found.1 (length c.in_ok-marks.marks.fates.items) long

pub add_round-requires-clause-picked : goal.add_round-requires-clause-picked
add_round-requires-clause-picked c = picked c.args.before.now.last _ c.requires.found.0 c.args.cells.now c.args.found.now c.requires.found.1

pub replace_slots-requires-clause-origins : goal.replace_slots-requires-clause-origins
replace_slots-requires-clause-origins c =
    ap length c.deref.ensures.value
    ∙ sym (length-map c.before-2.inside.last_origins.items origin_value)
    ∙ ap (λ (l : Lifted). length l.last_origins) c.before-2.view_is
    ∙ c.requires.origins
    ∙ sym (ap (λ (l : Lifted). length l.last.devices) c.before-2.view_is)

pub replace_slots-requires-clause-fates : goal.replace_slots-requires-clause-fates
replace_slots-requires-clause-fates c = ap length c.deref-3.ensures.value ∙ c.add_round.ensures.devices ∙ c.in_ok-marks.ensures.devices ∙ c.devices.ensures.count

pub replace_slots-requires-clause-within : goal.replace_slots-requires-clause-within
replace_slots-requires-clause-within c =
    let new = c.add_round.new.marks in
    let chosen = chosen_of c.args.cells.now c.args.found.now in
    let marked : IsMarked chosen new.fates.items new.slots.items = c.in_ok-add_round.ensures.marked [] c.in_ok-marks.ensures.marked in
    subst (λ (fs : List Fate). All (IsWithin (length c.deref-2.result.now)) fs) (sym c.deref-3.ensures.value)
    (all_within chosen new.fates.items new.slots.items c.deref-2.result.now marked c.deref-2.ensures.value)

pub with_devices-requires-clause-sound : goal.with_devices-requires-clause-sound
with_devices-requires-clause-sound c =
    let before = c.args.before.now in
    let cells = c.args.cells.now in
    let found = c.args.found.now in
    let new = c.add_round.new.marks in
    let chosen = chosen_of cells found in
    let view = c.before-2.view_is in
    let marked : IsMarked chosen new.fates.items new.slots.items = c.in_ok-add_round.ensures.marked [] c.in_ok-marks.ensures.marked in
    let last : c.before-2.inside.last ≡ before.last = ap (λ (l : Lifted). l.last) view in
    let origins : map origin_value c.deref.result.now ≡ before.last_origins = ap (map origin_value) c.deref.ensures.value ∙ ap (λ (l : Lifted). l.last_origins) view in
    let all : List Slot = slots_of before.last.devices before.last_origins in
    let long : length new.fates.items ≡ length all = c.add_round.ensures.devices ∙ c.in_ok-marks.ensures.devices ∙ c.devices.ensures.count ∙ ap (λ (x : Circuit). length x.devices) last ∙ sym (slots_long before.last.devices before.last_origins c.requires.origins) in
    let slots : c.in_ok-slots.slots.items ≡ slots_behind cells before found =
    c.in_ok-slots.ensures.slots
    ∙ (λ i. all_slots_by (c.deref-2.ensures.value i) (slots_of (last i).devices (origins i)) (c.deref-3.ensures.value i))
    ∙ slots_are_after chosen all new.slots.items new.fates.items long marked in
    let devices = c.in_ok-parts.ensures.devices ∙ ap (map (λ (s : Slot). s.device)) slots in
    (λ i. circuit_fault (with_devices (last i) (devices i))) ∙ behind_unrefused c.requires.found.0 _ cells before found (subst IsBuilt last c.devices.ensures.built) c.requires.cells c.requires.found.1

pub returns : goal.returns
returns c =
    let before = c.args.before.now in
    let cells = c.args.cells.now in
    let found = c.args.found.now in
    let new = c.add_round.new.marks in
    let chosen = chosen_of cells found in
    let view = c.before-2.view_is in
    let marked : IsMarked chosen new.fates.items new.slots.items = c.in_ok-add_round.ensures.marked [] c.in_ok-marks.ensures.marked in
    let last : c.before-2.inside.last ≡ before.last = ap (λ (l : Lifted). l.last) view in
    let origins : map origin_value c.deref.result.now ≡ before.last_origins = ap (map origin_value) c.deref.ensures.value ∙ ap (λ (l : Lifted). l.last_origins) view in
    let all : List Slot = slots_of before.last.devices before.last_origins in
    let long : length new.fates.items ≡ length all = c.add_round.ensures.devices ∙ c.in_ok-marks.ensures.devices ∙ c.devices.ensures.count ∙ ap (λ (x : Circuit). length x.devices) last ∙ sym (slots_long before.last.devices before.last_origins c.requires.origins) in
    let slots : c.in_ok-slots.slots.items ≡ slots_behind cells before found =
    c.in_ok-slots.ensures.slots
    ∙ (λ i. all_slots_by (c.deref-2.ensures.value i) (slots_of (last i).devices (origins i)) (c.deref-3.ensures.value i))
    ∙ slots_are_after chosen all new.slots.items new.fates.items long marked in
    let devices = c.in_ok-parts.ensures.devices ∙ ap (map (λ (s : Slot). s.device)) slots in
    record {
      circuit = c.in_ok-with_devices.ensures.circuit ∙ (λ i. with_devices (last i) (devices i));
      origins = c.in_ok-parts.ensures.origins ∙ ap (map (λ (s : Slot). s.origin)) slots;
      chosen = omega (arith, c.in_ok-and_others.ensures.sum, c.len.ensures, new.slots.ok.0, ap length marked.slots_are, length-map chosen (λ (x : Chosen). x.slot), ap (λ (l : Lifted). l.chosen) view);
    }
