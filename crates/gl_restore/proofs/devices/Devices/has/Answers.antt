use Rattle.std.proofs.Common.{◌∙◌}
use Rattle.gl_restore.specs.Backs.{kept_name}
use Rattle.gl_restore.proofs.PlaceLaws.{is_there, some_seen}
use Rattle.gl_restore.proofs.devices.Devices.has.Goals as goal

pub returns : goal.returns
returns c = record { has = c.is_some.ensures ∙ some_seen c.find.result _ c.find.ensures.found ∙ is_there kept_name c.args.name.now c.args.self.now }
