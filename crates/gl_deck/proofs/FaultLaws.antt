-- What a line does to a draft, by its refusals.
use Rattle.std.proofs.Common.{◌≡◌, ℕ, Option, Some, None, Result, Ok, sym, ap, ◌∙◌, subst}
use Rattle.gl_text.specs.LogicalLines.{Fault, Line}
use Rattle.gl_fault.proofs.AnswerLaws.{given, none_is}
use Rattle.gl_fault.specs.Refusals.{◌>>=◌, or_else, IsRefusal}
use Rattle.gl_text.specs.Cards.{Card, no_card, card_of}
use Rattle.gl_deck.specs.declared.fault.DeckFault.{DeckFault}
use Rattle.gl_deck.specs.Refusals.{Refuses, fault_of}
use Rattle.gl_deck.specs.Drafts.{Draft, card_fault, draft_after, draft_step}

pub step_refused : (d : Draft) (l : Line) (card : Card) (f : DeckFault) (o : Option DeckFault) → or_else (no_card l) (card_of l.text) ≡ Ok card → o ≡ Some f → Refuses o (card_fault d l card) → IsRefusal (fault_of f) (draft_step d l)
step_refused d l card f o e some p =
    let Q : Option DeckFault → Type 0 = λ g. Refuses g (card_fault d l card) in
    let P : Result Card Fault → Type 0 = λ r. IsRefusal (fault_of f) (r >>= λ c. or_else (card_fault d l c) (draft_after d l.line c)) in
    subst P (sym e) (given fault_of f (card_fault d l card) (draft_after d l.line card) (subst Q some p))

pub step_taken : (d new : Draft) (l : Line) (line : ℕ) (card : Card) (o : Option DeckFault) → or_else (no_card l) (card_of l.text) ≡ Ok card → o ≡ None → Refuses o (card_fault d l card) → line ≡ l.line → new ≡ draft_after d line card → draft_step d l ≡ Ok new
step_taken d new l line card o e none p at is =
    let P : Option DeckFault → Type 0 = λ g. Refuses g (card_fault d l card) in
    ap (λ (r : Result Card Fault). r >>= λ c. or_else (card_fault d l c) (draft_after d l.line c)) e
    ∙ ap (λ w. or_else w (draft_after d l.line card)) (none_is fault_of (card_fault d l card) (subst P none p))
    ∙ ap (λ n. Ok (draft_after d n card)) (sym at) ∙ ap (λ x. Ok x) (sym is)
