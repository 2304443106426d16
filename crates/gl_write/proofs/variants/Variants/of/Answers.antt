use Rattle.std.proofs.Common.{◌≡◌, ◌∙◌, ◌+◌, ◌++◌, ◌∷◌, [], List, take, sym, ap}
use Rattle.std.proofs.lemmas.List.Sums.{fold_push}
use Rattle.gl_base.specs.Rounds.{cards_of}
use Rattle.gl_lifting.specs.Variants.{Variants}
use Rattle.gl_found.specs.Founds.{Found}
use Rattle.gl_write.specs.Variants.{variant_in, with_variant, with_found, variants_in}
use Rattle.gl_write.proofs.PlaceLaws.{taken_more}
use Rattle.gl_write.proofs.variants.Variants.of.Goals as goal

pub loop-f-preserved : goal.loop-f-preserved
loop-f-preserved c =
    let cards = cards_of c.args.flat.now in
    let subs = c.args.subs.now in
    let i = c.loop-f.f-index in
    let f : Found = c.f-item.result in
    let before : List Found = take i c.args.found.now in
    let more : take (i + 1) c.args.found.now ≡ before ++ f ∷ [] = taken_more c.args.found.now i f c.loop-f-test.true c.f-item.is in
    let numbers = c.deref.ensures.value ∙ ap (λ (vs : Variants). vs.numbers) c.variants.view_is in
    c.in_ok-add.ensures.added
    ∙ ap (with_variant c.loop-f.variants) (c.in_ok-variant.ensures.variant ∙ ap (λ ns. variant_in cards subs ns f) numbers)
    ∙ ap (λ vs. with_found cards subs vs f) c.loop-f.invariant
    ∙ sym (fold_push (with_found cards subs) (record { different = []; numbers = [] }) before f)
    ∙ ap (variants_in cards subs) (sym more)
