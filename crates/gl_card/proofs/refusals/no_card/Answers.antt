use Rattle.std.proofs.Common.{◌≡◌, ◌∙◌, ap, sym, ℕ, List, Option, length, ltb, subst}
use Rattle.std.specs.Option.{option_or}
use Rattle.std.proofs.lemmas.List.{length-map}
use Rattle.gl_fault.specs.Refusals.{when}
use Rattle.gl_text.specs.LogicalLines as lines
use Rattle.gl_text.specs.LogicalLines.{Fault, folded}
use Rattle.gl_text.specs.Cards as cards
use Rattle.gl_line.specs.declared.field.Field.{Field}
use Rattle.gl_card.specs.declared.fault.CardFault.{CardFault}
use Rattle.gl_card.specs.Kinds.{kind_value, shown}
use Rattle.gl_card.specs.Reading.{Refuses, first_long}
use Rattle.gl_card.proofs.FaultLaws.{or_four}
use Rattle.gl_card.proofs.refusals.no_card.Goals as goal

pub returns : goal.returns
returns c =
    let kind = kind_value c.args.kind in
    let line = c.args.line in
    let fields = c.args.fields.now in
    let Q : List (List ℕ) → Type 0 = λ ns. Refuses c.long_name.result (first_long line ns) in
    let long : Q (cards.names_of kind (shown fields)) = subst Q c.names_in.ensures.names c.long_name.ensures.first in
    let R : ℕ → Type 0 = λ n. Refuses c.short_card.result (when (ltb n (cards.needs kind)) (lines.short_card line n (cards.needs kind))) in
    let few : length fields ≡ length (shown fields) = sym (length-map fields (λ (f : Field). folded f.bytes.now)) in
    let short : R (length (shown fields)) = subst R few c.short_card.ensures.short in
    let all = or_four c.long_name.result c.unknown_card.result c.short_card.result c.control_block.result
    (first_long line (cards.names_of kind (shown fields)))
    (when (cards.is_unknown kind) (lines.unknown_card line (cards.first_byte c.args.text.now)))
    (when (ltb (length (shown fields)) (cards.needs kind)) (lines.short_card line (length (shown fields)) (cards.needs kind)))
    (when (cards.is_control kind) (lines.control_block line))
    long c.unknown_card.ensures.unknown short c.control_block.ensures.control in
    let e : option_or (option_or (option_or c.long_name.result c.unknown_card.result) c.short_card.result) c.control_block.result ≡ c.or-3.result =
    ap (λ o. option_or (option_or o c.short_card.result) c.control_block.result) (sym c.or.ensures) ∙ ap (λ o. option_or o c.control_block.result) (sym c.or-2.ensures) ∙ sym c.or-3.ensures in
    let P : Option CardFault → Type 0 = λ o. Refuses o (cards.no_card_by (record { line = line; text = c.args.text.now }) kind (shown fields)) in
    record { first = subst P e all }
