use Rattle.std.proofs.Common.{◌≡◌, ◌≤◌, length, ap, sym, ◌∙◌, arith}
use Rattle.gl_text.specs.Cards as cards
use Rattle.gl_card.specs.Reading.{card_value}
use Rattle.gl_card.proofs.TailBounds.{card_tail_short}
use Rattle.gl_card.proofs.card.Card.tail_fault.Goals as goal

pub long_tail-requires : goal.long_tail-requires
long_tail-requires c =
    let short : length c.in-Dev.card.tail ≤ length c.args.line.now.text = card_tail_short (cards.dev c.in-Dev.card) c.args.line.now.text (ap card_value (sym c.in-Dev.is) ∙ c.requires.of_line) in
    let same : length c.tail.result.now ≡ length c.in-Dev.card.tail = ap length c.tail.ensures.tail in
    record { few = omega (arith, short, same, c.requires.size) }

pub long_tail-requires-in-Model : goal.long_tail-requires-in-Model
long_tail-requires-in-Model c =
    let short : length c.in-Model.card.tail ≤ length c.args.line.now.text = card_tail_short (cards.model c.in-Model.card) c.args.line.now.text (ap card_value (sym c.in-Model.is) ∙ c.requires.of_line) in
    let same : length c.tail-in-Model.result.now ≡ length c.in-Model.card.tail = ap length c.tail-in-Model.ensures.tail in
    record { few = omega (arith, short, same, c.requires.size) }
