use Rattle.std.proofs.Common.{◌≡◌, ◌∙◌, ap, sym, length, arith, subst, ℕ, List, Option, Some, None}
use Rattle.gl_fault.proofs.AnswerLaws.{given, none_is}
use Rattle.gl_fault.specs.Refusals.{when}
use Rattle.gl_text.specs.LogicalLines as lines
use Rattle.gl_text.specs.LogicalLines.{Fault, Line}
use Rattle.gl_text.specs.Cards as cards
use Rattle.gl_card.specs.Kinds.{kind_value, shown, card_from, IsLettered}
use Rattle.gl_card.specs.Reading.{Refuses, first_long, fault_of}
use Rattle.gl_card.proofs.ReadLaws.{card_is, fault_is, fields_few, made, enough}
use Rattle.gl_card.proofs.LetterLaws.{lettered}
use Rattle.gl_card.proofs.read.card_in.Goals as goal

pub no_card-requires-clause-few : goal.no_card-requires-clause-few
no_card-requires-clause-few c = let few = fields_few c.args.line.now.text c.args.fields.now c.requires.fields in omega (arith, few, c.requires.size)

pub returns-in-Some : goal.returns-in-Some
returns-in-Some c =
    let l : Line = c.args.line.now in
    let kind = kind_value c.kind_of-kind.result in
    let kind_e = c.kind_of-kind.ensures.kind ∙ ap cards.kind_of c.text-text.ensures.text in
    let e = fault_is l c.line.result c.text-text.result.now kind c.args.fields.now c.line.ensures.line c.text-text.ensures.text c.requires.fields kind_e in
    let P : Option Fault → Type 0 = λ o. Refuses (Some c.in-Some.fault) o in
    record { card = given fault_of c.in-Some.fault (cards.no_card l) (cards.card_of l.text) (subst P e c.in-Some.ensures.first) }

pub make-requires-clause-enough : goal.make-requires-clause-enough
make-requires-clause-enough c =
    let l : Line = c.args.line.now in
    let kind = kind_value c.kind_of-kind.result in
    let fields = c.args.fields.now in
    let none : cards.no_card_by (record { line = c.line.result; text = c.text-text.result.now }) kind (shown fields) ≡ None = none_is fault_of _ c.in_default.ensures.first in
    enough l kind fields (first_long c.line.result (cards.names_of kind (shown fields))) (when (cards.is_unknown kind) (lines.unknown_card c.line.result (cards.first_byte c.text-text.result.now)))
    (when (cards.is_control kind) (lines.control_block c.line.result)) (lines.short_card c.line.result (length (shown fields)) (cards.needs kind)) none

pub make-requires-clause-lettered : goal.make-requires-clause-lettered
make-requires-clause-lettered c =
    let kind = c.kind_of-kind.result in
    let P : List ℕ → Type 0 = λ t. IsLettered kind t in
    lettered kind c.args.line.now.text c.args.fields.now c.requires.fields (subst P c.text-text.ensures.text c.kind_of-kind.ensures.letter)

pub returns : goal.returns
returns c =
    let l : Line = c.args.line.now in
    let kind = kind_value c.kind_of-kind.result in
    let fields = c.args.fields.now in
    let kind_e = c.kind_of-kind.ensures.kind ∙ ap cards.kind_of c.text-text.ensures.text in
    let none = sym (fault_is l c.line.result c.text-text.result.now kind fields c.line.ensures.line c.text-text.ensures.text c.requires.fields kind_e) ∙ none_is fault_of _ c.in_default.ensures.first in
    let card = c.in_ok-make.ensures.card ∙ ap (card_from kind fields) c.text-text.ensures.text ∙ card_is kind l.text fields c.requires.fields kind_e in
    record { card = made l c.in_ok-make.field-0 none card }
