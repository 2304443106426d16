use Rattle.std.proofs.Common.{◌<◌, All}
use Rattle.gl_choices.proofs.choices.instance.Given as goal

abbrev pub invariant-loop-dev : goal.invariant-loop-dev
invariant-loop-dev g l = All (λ dev. dev < 6) l.set.items
