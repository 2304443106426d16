use Rattle.std.proofs.Common.{◌∙◌, ◌++◌, sym, ap}
use Rattle.std.proofs.lemmas.List.{append-nil}
use Rattle.std.proofs.lemmas.Slice.Zip.{either_empty_from_Zip}
use Rattle.gl_write.specs.Texts.{slots_text}
use Rattle.gl_write.proofs.EndLaws.{slots_none}
use Rattle.gl_write.proofs.device.put_slots.Goals as goal

pub returns-clause-ok : goal.returns-clause-ok
returns-clause-ok c =
    let out = c.loop-device.out.items in
    let scene = c.args.scene.now in
    let left = c.loop-device.device-iterator in
    let done = slots_none left.a.rest.now left.b.rest.now (either_empty_from_Zip left c.next.new.self c.next.result c.in-None.is c.next.ensures.steps) in
    sym (append-nil out) ∙ sym (ap (λ slots. out ++ slots_text scene.stem.now scene.flat.now scene.names.now scene.numbers.now slots) done) ∙ c.loop-device.invariant
