use Rattle.std.proofs.Common.{◌≡◌, ◌∙◌, ◌+◌, ◌++◌, ◌∷◌, [], List, take, sym, ap, subst}
use Rattle.std.specs.Option.{option_copied}
use Rattle.gl_text.specs.Cards.{Head}
use Rattle.gl_lifting.specs.Variants.{Variant, variant_names}
use Rattle.gl_variant.specs.Names.{AreGiven}
use Rattle.gl_write.proofs.NamingLaws.{named_more}
use Rattle.gl_write.proofs.PlaceLaws.{taken_more}
use Rattle.gl_write.proofs.naming.name_variants.Goals as goal

pub loop-variant-preserved : goal.loop-variant-preserved
loop-variant-preserved c =
    let top = option_copied c.args.top in
    let i = c.loop-variant.variant-index in
    let v : Variant = c.variant-item.result in
    let before : List Variant = take i c.args.variants.now in
    let more : take (i + 1) c.args.variants.now ≡ before ++ v ∷ [] = taken_more c.args.variants.now i v c.loop-variant-test.true c.variant-item.is in
    let cell : c.name.result.now ≡ v.cell.head.name = c.name.ensures.name ∙ ap (λ (h : Head). h.name) c.head.ensures.head ∙ ap (λ (w : Variant). w.cell.head.name) c.variant.view_is in
    let given = c.loop-variant.invariant.given in
    record {
      names = c.in_ok-push.ensures.items
          ∙ named_more top before v c.loop-variant.names.items c.name.result.now c.in_ok-give_name.field-0 c.loop-variant.invariant.names cell (c.in_ok-give_name.ensures.name before given)
          ∙ ap (variant_names top) (sym more);
      given = subst (λ vs. AreGiven top vs c.give_name.new.lasts.entries) (sym more) (c.in_ok-give_name.ensures.given before v (sym cell) given);
    }
