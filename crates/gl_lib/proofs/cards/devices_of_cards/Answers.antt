use Rattle.std.proofs.Common.{◌∙◌, sym, ap, subst, arith}
use Rattle.std.proofs.lemmas.List.{length-map}
use Rattle.gl_match.proofs.Lists.{get_map}
use Rattle.gl_deck.specs.Bodies.{body_value}
use Rattle.gl_lib.specs.Numbered.{IsNumbered}
use Rattle.gl_lib.specs.Tables.{run_in}
use Rattle.gl_lib.proofs.cards.devices_of_cards.Goals as goal

pub device_of_card-requires-clause-numbered : goal.device_of_card-requires-clause-numbered
device_of_card-requires-clause-numbered c =
    let cards = c.args.cards.now in
    let k = c.loop-card.card-index in
    let card = c.card-item.result in
    subst (IsNumbered (run_in c.args.parts.now) c.args.nets.now)
    (get_map body_value cards k card (body_value card) c.loop-card-test.true ∙ ap body_value (sym c.card-item.is))
    (c.requires.numbered k (body_value card) (omega (arith, length-map cards body_value, c.loop-card-test.true)))
