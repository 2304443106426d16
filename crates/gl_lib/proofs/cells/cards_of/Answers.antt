use Rattle.gl_lib.proofs.CellLaws.{cards_step, cards_done}
use Rattle.gl_lib.proofs.cells.cards_of.Goals as goal

pub returns : goal.returns
returns c = record { cards = cards_done _ _ c.args.cards.now _ c.loop-card-test.false c.loop-card.invariant }

pub loop-card-preserved : goal.loop-card-preserved
loop-card-preserved c = cards_step _ _ _ c.args.cards.now _ c.card-item.result c.loop-card-test.true c.card-item.is c.in_ok-add_card.ensures.added c.loop-card.invariant
