use Rattle.std.proofs.Common.{◌≡◌, length, flat_map}
use Rattle.gl_text.specs.Flattening.{bearers, long_in}
use Rattle.gl_flat.specs.LongNames.{AreCountable}
use Rattle.gl_flat.proofs.long.first_long.Given as goal

abbrev pub invariant-loop-rest : goal.invariant-loop-rest
invariant-loop-rest l = record {
  short : AreCountable (flat_map bearers l.rest);
  same : long_in (flat_map bearers l.rest) ≡ long_in (flat_map bearers l.devices);
}

abbrev pub decreases-loop-rest : goal.decreases-loop-rest
decreases-loop-rest l = length l.rest
