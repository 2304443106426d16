use Rattle.std.proofs.Common.{◌≡◌, drop}
use Rattle.std.specs.Prelude.{max}
use Rattle.gl_name.specs.Needs.{need_of_names}
use Rattle.gl_name.proofs.underscores.underscores_for_names.Given as goal

abbrev pub invariant-loop-name : goal.invariant-loop-name
invariant-loop-name l = max l.count (need_of_names (drop l.name-index l.names)) ≡ max l.most (need_of_names l.names)
