use Rattle.std.proofs.Common.{◌-◌, ◌<◌, length, ap, ◌∙◌, arith}
use Rattle.gl_card.proofs.PartLaws.{behind_field, behind_is}
use Rattle.gl_card.proofs.parts.text_behind.Goals as goal

pub returns : goal.returns
returns c =
    let lt : c.args.count - 1 < length c.args.fields.now = omega (arith, c.requires.counted, c.requires.within) in
    record { behind = c.behind.ensures.behind ∙ ap (behind_field c.args.text.now) c.index-fields-count.is ∙ behind_is c.args.text.now c.args.fields.now c.args.count c.index-fields-count.result c.requires.counted lt }
