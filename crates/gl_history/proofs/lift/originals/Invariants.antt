use Rattle.std.proofs.Common.{◌≡◌, map}
use Rattle.std.specs.List.{range_with_len}
use Rattle.gl_lifting.specs.Replacement.{base}
use Rattle.gl_history.specs.Plain.{origin_value}
use Rattle.gl_history.proofs.lift.originals.Given as goal

abbrev pub invariant-loop-dev : goal.invariant-loop-dev
invariant-loop-dev l = map origin_value l.origins.items ≡ map (λ n. base n) (range_with_len 0 l.dev)
