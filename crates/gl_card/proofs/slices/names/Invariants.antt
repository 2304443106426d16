use Rattle.std.proofs.Common.{◌≡◌, take}
use Rattle.gl_card.specs.Kinds.{shown}
use Rattle.gl_card.proofs.slices.names.Given as goal

abbrev pub invariant-loop-field : goal.invariant-loop-field
invariant-loop-field l = l.names.items ≡ shown (take l.field-index l.fields)
