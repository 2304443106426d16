use Rattle.std.proofs.Common.{◌≡◌, ◌∙◌, ap, take}
use Rattle.gl_text.specs.LogicalLines.{tail_of}
use Rattle.gl_text.specs.Cards as cards
use Rattle.gl_line.specs.Fields.{piece_of}
use Rattle.std.specs.Prelude.{map}
use Rattle.gl_card.specs.Kinds.{shown, count_of}
use Rattle.gl_card.proofs.PartLaws.{shown_take}
use Rattle.gl_card.proofs.NamedLaws.{device_kept}
use Rattle.gl_card.proofs.make.device.Goals as goal

pub returns : goal.returns
returns c =
    let fields = c.args.fields.now in
    let named : c.in_ok-names.field-0.items ≡ take (count_of c.args.letter) (shown fields) =
    c.in_ok-names.ensures.names ∙ ap shown c.front.ensures.front ∙ shown_take c.fields.result fields ∙ ap (λ n. take n (shown fields)) c.fields.ensures.fields in
    let tail = c.in_ok-normal.ensures.normal ∙ ap tail_of c.text_behind.ensures.behind ∙ ap (λ n. tail_of (cards.behind n (map (piece_of c.args.text.now) fields))) c.fields-2.ensures.fields in
    record { card = device_kept c.args.letter _ _ _ _ c.args.text.now named c.requires.lettered tail }
