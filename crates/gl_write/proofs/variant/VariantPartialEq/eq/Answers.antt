use Rattle.std.proofs.Common.{◌≡◌, ◌∙◌, sym, ap, true, rules}
use Rattle.std.specs.Prelude.{◌&&◌}
use Rattle.std.specs.Cmp.Lexicographic.{pointwise}
use Rattle.gl_text.specs.LogicalLines.{same_text}
use Rattle.gl_lifting.specs.Variants.{same_carried, same_cards}
use Rattle.gl_variant.proofs.KeyLaws.{cards_are}
use Rattle.gl_write.proofs.variant.VariantPartialEq.eq.Goals as goal

pub returns-then-eq : goal.returns-then-eq
returns-then-eq c =
    let v = c.args.self.now in
    let w = c.args.other.now in
    let name : same_text v.cell.head.name w.cell.head.name ≡ true = search rules in
    let cards : c.eq-then-eq.result ≡ pointwise same_carried v.cards w.cards = search rules in
    cards ∙ cards_are v.cards w.cards ∙ sym (ap (λ b. b && same_cards v.cards w.cards) name)
