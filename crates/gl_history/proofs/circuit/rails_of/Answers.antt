use Rattle.std.proofs.Common.{◌++◌, ◌∷◌, [], take, sym, ap, ◌∙◌}
use Rattle.std.proofs.lemmas.List.{take_more}
use Rattle.std.proofs.lemmas.Option.{get_or_from_slice_get, slice_get_within}
use Rattle.gl_history.proofs.circuit.rails_of.Goals as goal

pub loop-rail-preserved : goal.loop-rail-preserved
loop-rail-preserved c =
    let rails = c.args.circuit.now.rails in
    let i = c.loop-rail.rail in
    let net = c.rail.result in
    c.in_ok-push.ensures.items
    ∙ ap (λ rs. rs ++ net ∷ []) c.loop-rail.invariant
    ∙ ap (λ r. take i rails ++ r ∷ []) (sym (get_or_from_slice_get rails i net net c.rail.ensures.rail))
    ∙ sym (take_more rails i net (slice_get_within rails i net c.rail.ensures.rail))
