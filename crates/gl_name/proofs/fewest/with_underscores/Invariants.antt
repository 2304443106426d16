use Rattle.std.proofs.Common.{◌≡◌}
use Rattle.gl_base.specs.Stems.{stem_with}
use Rattle.gl_name.proofs.fewest.with_underscores.Given as goal

abbrev pub invariant-loop : goal.invariant-loop
invariant-loop l = l.stem.items ≡ stem_with l.counter
