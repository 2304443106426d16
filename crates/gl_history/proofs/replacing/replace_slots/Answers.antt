use Rattle.std.proofs.Common.{◌<◌, ◌+◌, ◌∙◌, length, map, get_or, refl, arith}
use Rattle.std.proofs.lemmas.List.{length-map}
use Rattle.gl_base.proofs.OnceLaws.{any_default}
use Rattle.gl_history.specs.declared.fate.Fate.TheVariants.{Stays}
use Rattle.gl_history.specs.Plain.{origin_value}
use Rattle.gl_history.specs.Replacing.{slots_of}
use Rattle.gl_history.proofs.ListLaws.{from_here}
use Rattle.gl_history.proofs.SlotLaws.{slot, slot_here, slots_next, slots_end, slots_long}
use Rattle.gl_history.proofs.replacing.replace_slots.Goals as goal

pub loop-i-preserved : goal.loop-i-preserved
loop-i-preserved c =
    let ds = c.args.circuit.now.devices in
    let origins = c.args.origins.now in
    let fates = c.args.fates.now in
    let i = c.loop-i.i in
    let lt : i < length ds = omega (arith, c.loop-i-test.true, c.devices-i-end.ensures.count) in
    let fate = get_or fates i Stays in
    let within : i < length fates = omega (arith, lt, c.requires.fates) in
    let s = slot c.device-device.result.now (origin_value c.index-origins-i.result) in
    slots_next c.args.made.now (slots_of ds (map origin_value origins)) fates i (i + 1) s fate c.loop-i.slots.items c.add_slot.new.slots.items _
    (slot_here ds origins i (i + 1) c.device-device.result.now c.index-origins-i.result c.requires.origins lt refl c.device-device.ensures.device c.index-origins-i.is)
    (from_here fates i (i + 1) fate within refl (any_default fates i Stays fate within)) c.in_ok-add_slot.ensures.added c.loop-i.invariant

pub returns : goal.returns
returns c =
    let ds = c.args.circuit.now.devices in
    let os = map origin_value c.args.origins.now in
    record { slots = slots_end c.args.made.now (slots_of ds os) c.args.fates.now c.loop-i.i c.loop-i.slots.items _ (omega (arith, slots_long ds os (length-map c.args.origins.now origin_value ∙ c.requires.origins), c.devices-i-end.ensures.count)) c.loop-i.invariant }
