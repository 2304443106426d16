use Rattle.std.proofs.Common.{◌∙◌, ◌++◌, [], ◌∷◌, ap}
use Rattle.gl_lib.proofs.ShapeLaws.{range_more}
use Rattle.gl_lib.proofs.shapes.cell_shape.Goals as goal

pub loop-port-preserved : goal.loop-port-preserved
loop-port-preserved c =
    c.in_ok-push.ensures.items ∙ ap (λ xs. xs ++ c.loop-port.port ∷ []) c.loop-port.invariant ∙ range_more c.loop-port.port
