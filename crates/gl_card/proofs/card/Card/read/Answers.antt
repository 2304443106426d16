use Rattle.std.proofs.Common.{List, [], ◌∷◌, Option}
use Rattle.gl_fault.proofs.AnswerLaws.{refused_first}
use Rattle.gl_text.specs.LogicalLines.{Fault, Line}
use Rattle.gl_text.specs.Cards.{no_card, card_of, has_parameters, has_long_tail}
use Rattle.gl_card.specs.Reading.{card_value, fault_of}
use Rattle.gl_card.proofs.ReadLaws.{card_kept, judged_gives}
use Rattle.gl_card.proofs.card.Card.read.Goals as goal

abbrev late : Line → List (Option Fault)
late l = has_parameters l ∷ has_long_tail l ∷ []

pub judged-requires-clause-of_line : goal.judged-requires-clause-of_line
judged-requires-clause-of_line c = card_kept (no_card c.args.line.now) (card_of c.args.line.now.text) (card_value c.in-Ok.card) c.in-Ok.ensures.card

pub returns-in-Ok : goal.returns-in-Ok
returns-in-Ok c =
    let l = c.args.line.now in
    record { card = judged_gives c.judged.result (no_card l) (card_of l.text) c.in-Ok.card (late l) c.in-Ok.ensures.card c.judged.ensures.card c.judged.ensures.refused }

pub returns-in-Err : goal.returns-in-Err
returns-in-Err c =
    let l = c.args.line.now in
    record { card = refused_first (fault_of c.in-Err.fault) (no_card l) (card_of l.text) (late l) c.in-Err.ensures.card }
