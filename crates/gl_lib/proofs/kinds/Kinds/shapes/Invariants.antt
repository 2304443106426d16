use Rattle.std.proofs.Common.{◌≡◌, take, map}
use Rattle.gl_base.specs.TypeNames.{classes_of}
use Rattle.gl_lib.proofs.kinds.Kinds.shapes.Given as goal

abbrev pub invariant-loop-kind : goal.invariant-loop-kind
invariant-loop-kind l = l.shapes.items ≡ map classes_of (take l.kind-index l.kind-items)
