use Rattle.std.proofs.Common.{◌≡◌, ◌++◌, map}
use Rattle.gl_history.specs.Plain.{origin_value}
use Rattle.gl_history.specs.Replacing.{slots_of}
use Rattle.gl_write.specs.Texts.{slots_text}
use Rattle.gl_write.proofs.device.put_slots.Given as goal

abbrev pub invariant-loop-device : goal.invariant-loop-device
invariant-loop-device l = l.out.items ++ slots_text l.scene.stem.now l.scene.flat.now l.scene.names.now l.scene.numbers.now (slots_of l.device-iterator.a.rest.now (map origin_value l.device-iterator.b.rest.now))
    ≡ l.fn.out.items ++ slots_text l.scene.stem.now l.scene.flat.now l.scene.names.now l.scene.numbers.now (slots_of l.devices (map origin_value l.origins))
