use Rattle.std.proofs.Common.{◌≡◌, take, map}
use Rattle.gl_flat.specs.Ways.{path_of}
use Rattle.gl_flat.proofs.way.path_names.Given as goal

abbrev pub invariant-loop-step : goal.invariant-loop-step
invariant-loop-step l = map (λ n. n.now) l.names.items ≡ path_of (take l.step-index l.way)
