use Rattle.std.proofs.Common.{◌∙◌}
use Rattle.gl_restore.specs.Places.{new_name}
use Rattle.gl_restore.proofs.PlaceLaws.{is_there, some_seen}
use Rattle.gl_restore.proofs.lines.Lines.has.Goals as goal

pub returns : goal.returns
returns c = record { has = c.is_some.ensures ∙ some_seen c.find.result _ c.find.ensures.found ∙ is_there new_name c.args.new.now c.args.self.now }
