use Rattle.std.proofs.Common.{◌≡◌, length, map}
use Rattle.gl_text.specs.Flattening.{net, top_net, long_in}
use Rattle.gl_flat.specs.LongNames.{AreCountable}
use Rattle.gl_flat.proofs.long.long_top.Given as goal

abbrev pub invariant-loop-rest : goal.invariant-loop-rest
invariant-loop-rest l = record {
  short : AreCountable (map net (map top_net l.rest));
  same : long_in (map net (map top_net l.rest)) ≡ long_in (map net (map top_net l.names));
}

abbrev pub decreases-loop-rest : goal.decreases-loop-rest
decreases-loop-rest l = length l.rest
