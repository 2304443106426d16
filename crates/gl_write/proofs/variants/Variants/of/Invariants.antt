use Rattle.std.proofs.Common.{◌≡◌, take}
use Rattle.gl_base.specs.Rounds.{cards_of}
use Rattle.gl_write.specs.Variants.{variants_in}
use Rattle.gl_write.proofs.variants.Variants.of.Given as goal

abbrev pub invariant-loop-f : goal.invariant-loop-f
invariant-loop-f l = l.variants ≡ variants_in (cards_of l.flat) l.subs (take l.f-index l.found)
