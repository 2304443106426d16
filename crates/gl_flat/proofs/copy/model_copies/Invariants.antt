use Rattle.std.proofs.Common.{◌≡◌, take}
use Rattle.gl_flat.proofs.copy.model_copies.Given as goal

abbrev pub invariant-loop-model : goal.invariant-loop-model
invariant-loop-model l = l.copies.items ≡ take l.model-index l.models
