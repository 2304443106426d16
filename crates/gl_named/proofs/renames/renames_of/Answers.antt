use Rattle.std.proofs.Common.{◌∙◌, ◌++◌, ◌∷◌, [], ap, sym, subst, take}
use Rattle.std.proofs.lemmas.List.{take_more}
use Rattle.std.proofs.lemmas.List.Sums.{fold_push}
use Rattle.gl_named.specs.Kept.{Keeps}
use Rattle.gl_named.specs.Walks.{no_rows, rows_behind, rows_of}
use Rattle.gl_named.proofs.renames.renames_of.Goals as goal

pub loop-item-preserved : goal.loop-item-preserved
loop-item-preserved c = λ rails subs plans.
    let stem = c.args.stem.now in
    let before = take c.loop-item.item-index c.args.found.now in
    let item = c.item-item.result in
    let more = take_more c.args.found.now c.loop-item.item-index item c.loop-item-test.true ∙ ap (λ f. before ++ f ∷ []) (sym c.item-item.is) in
    let whole = ap (rows_of stem rails subs) more ∙ fold_push (rows_behind stem rails subs) no_rows before item in
    subst (Keeps c.add_found.new.names) (sym whole) (c.in_ok-add_found.ensures.added rails subs (rows_of stem rails subs before) plans (c.loop-item.invariant rails subs plans))
