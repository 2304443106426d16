use Rattle.std.proofs.Common.{◌+◌, refl, ap}
use Rattle.gl_restore.specs.Places.{new_name}
use Rattle.gl_restore.proofs.PlaceLaws.{settled_more}
use Rattle.gl_restore.proofs.lines.places_of.Goals as goal

pub loop-line-preserved : goal.loop-line-preserved
loop-line-preserved c = record {
  found = λ name. settled_more new_name c.args.lines.now c.loop-line.line-index c.line-item.result name _ c.loop-line.place _ _ _ c.loop-line-test.true c.line-item.is refl c.loop-line.invariant.count
      (c.in_ok-note.ensures.noted name) (c.loop-line.invariant.found name);
  count = ap (λ n. n + 1) c.loop-line.invariant.count;
}
