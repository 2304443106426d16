-- What a card and a refusal of the code mean.
use Rattle.std.specs.Prelude.{ℕ, List, [], ◌∷◌, Option, Some, None, map, nat_lt, Result, length}
use Rattle.gl_fault.specs.Refusals as answers
use Rattle.gl_fault.specs.Refusals.{first_some, when, GivesAs}
use Rattle.gl_text.specs.LogicalLines.{NAME, Line, Fault, long_name, unknown_card, short_card, control_block, parameters, long_tail}
use Rattle.gl_text.specs.Cards as cards
use Rattle.gl_card.specs.declared.card.Card.{Card}
use Rattle.gl_card.specs.declared.card.Card.TheVariants as card
use Rattle.gl_card.specs.declared.fault.CardFault.{CardFault}
use Rattle.gl_card.specs.declared.fault.CardFault.TheVariants as faults

-- the card as the definition of cards has it
abbrev pub card_value : Card → cards.Card
card_value (card.Dev d) = cards.dev d
card_value (card.Call c) = cards.call c
card_value (card.Model m) = cards.model m
card_value (card.Subckt h) = cards.subckt h
card_value (card.Ends name) = cards.ends name
card_value (card.Global names) = cards.global names.items
card_value card.End = cards.ended
card_value (card.Passed text) = cards.passed text.items

-- the refusal, or nothing for want of memory
abbrev pub fault_of : CardFault → Option Fault
fault_of (faults.LongName line len) = Some (long_name line len)
fault_of (faults.UnknownCard line byte) = Some (unknown_card line byte)
fault_of (faults.ShortCard line has needs) = Some (short_card line has needs)
fault_of (faults.ControlBlock line) = Some (control_block line)
fault_of (faults.Parameters line) = Some (parameters line)
fault_of (faults.LongTail line len) = Some (long_tail line len)
fault_of faults.Memory = None

-- the first name that is too long
abbrev pub first_long : ℕ → List (List ℕ) → Option Fault
first_long line names = first_some (map (λ (n : List ℕ). when (nat_lt NAME (length n)) (long_name line (length n))) names)

-- why a line's card is refused although there is one
abbrev pub late_of : Line → Option Fault
late_of l = first_some (cards.has_parameters l ∷ cards.has_long_tail l ∷ [])

-- there is a refusal exactly where one is wanted, and it is that one
abbrev pub Refuses : Option CardFault → Option Fault → Type 0
Refuses = answers.Refuses fault_of

-- a card exactly where one is wanted, and it is that one; else the wanted refusal; want of memory may come in place of either
abbrev pub GivesCard : Result Card CardFault → Result cards.Card Fault → Type 0
GivesCard = GivesAs fault_of card_value
