use Rattle.std.proofs.Common.{sym, subst}
use Rattle.indexmap.specs.IndexMap.{get}
use Rattle.gl_text.specs.LogicalLines.{same_text}
use Rattle.gl_base.specs.TypeNames.{type_by}
use Rattle.gl_lib.specs.Numbered.{IsAmongTypes}
use Rattle.gl_lib.proofs.devices.flat_devices.Goals as goal

pub flat_device-requires : goal.flat_device-requires
flat_device-requires c =
    subst (IsAmongTypes (type_by (get same_text c.args.words.now)) c.args.kinds.now) (sym c.device-item.is)
    (c.requires c.loop-device.device-index c.device-item.result c.loop-device-test.true)
