use Rattle.std.proofs.Common.{◌≡◌, take}
use Rattle.std.specs.Prelude.{flat_map}
use Rattle.gl_found.specs.Founds.{found_in}
use Rattle.gl_found.proofs.found.gather_found.Given as goal

abbrev pub invariant-loop-round : goal.invariant-loop-round
invariant-loop-round l = l.found.items ≡ flat_map found_in (take l.round-index l.lift.rounds)
