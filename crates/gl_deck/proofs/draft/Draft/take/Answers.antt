use Rattle.gl_text.specs.Cards.{no_card, card_of}
use Rattle.gl_card.specs.Reading.{card_value}
use Rattle.gl_card.proofs.ReadLaws.{card_kept}
use Rattle.gl_deck.proofs.FaultLaws.{step_refused, step_taken}
use Rattle.gl_deck.proofs.NodeLaws.{countable}
use Rattle.gl_deck.proofs.draft.Draft.take.Goals as goal

pub refused-requires-clause-of_line : goal.refused-requires-clause-of_line
refused-requires-clause-of_line c = card_kept (no_card c.args.line.now) (card_of c.args.line.now.text) (card_value c.in_ok-card.card) c.in_ok-card.ensures.card

pub returns-in-Some-clause-refused : goal.returns-in-Some-clause-refused
returns-in-Some-clause-refused c = step_refused c.args.self.now c.args.line.now (card_value c.in_ok-card.card) c.in-Some.fault c.in_ok-fault.field-0 c.in_ok-card.ensures.card c.in-Some.is c.in_ok-fault.ensures.first

pub add-requires : goal.add-requires
add-requires c =
    let l = c.args.line.now in
    record { few = countable l.text (card_value c.in_ok-card.card) c.requires.size (card_kept (no_card l) (card_of l.text) (card_value c.in_ok-card.card) c.in_ok-card.ensures.card) }

pub returns-clause-taken : goal.returns-clause-taken
returns-clause-taken c =
    step_taken c.args.self.now c.add.new.self c.args.line.now c.line.result (card_value c.in_ok-card.card) c.in_ok-fault.field-0 c.in_ok-card.ensures.card c.in_default.is c.in_ok-fault.ensures.first c.line.ensures.line c.in_ok-add.ensures.added
