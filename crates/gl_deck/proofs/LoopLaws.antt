-- Where a line ends the reading.
use Rattle.std.proofs.Common.{◌≡◌, List, ◌∷◌, Option, Some, None, Result, Ok, Err, sym, ap, ◌∙◌, subst}
use Rattle.std.specs.Result.{IsErrAnd}
use Rattle.gl_text.specs.LogicalLines.{Line, Fault}
use Rattle.gl_fault.proofs.AnswerLaws.{through, same_refusal}
use Rattle.gl_fault.specs.Refusals.{IsRefusal}
use Rattle.gl_line.specs.Answers as line
use Rattle.gl_line.specs.Answers.{IsLast}
use Rattle.gl_line.specs.declared.fault.LineFault.{LineFault}
use Rattle.gl_deck.specs.declared.fault.DeckFault.{DeckFault}
use Rattle.gl_deck.specs.Drafts.{Draft, draft_step, drafted_from}
use Rattle.gl_deck.specs.Refusals.{Gives, fault_of}

ended : (o : Option Fault) (d : Draft) (left : List (Result Line Fault)) → IsLast o left → IsRefusal o (drafted_from d left)
ended None d left h = tt
ended (Some g) d left h = ap (drafted_from d) h

-- a line that is none
pub line_refused : (r : Result Draft DeckFault) (f : LineFault) (d : Draft) (left others : List (Result Line Fault)) (w : Result Draft Fault)
    → line.GivesFirst (Err f) left others → IsErrAnd r (λ e. fault_of e ≡ line.fault_of f) → drafted_from d left ≡ w → Gives r w
line_refused (Ok x) f d left others w h e same = absurd e
line_refused (Err g) f d left others w h e same =
    same_refusal (fault_of g) (line.fault_of f) w e (subst (IsRefusal (line.fault_of f)) same (ended (line.fault_of f) d left h.0))

-- a line that is refused
pub line_stopped : (r : Result Draft DeckFault) (f : DeckFault) (d : Draft) (l : Line) (left others : List (Result Line Fault)) (w : Result Draft Fault)
    → left ≡ Ok l ∷ others → IsErrAnd r (λ e. e ≡ f) → IsRefusal (fault_of f) (draft_step d l) → drafted_from d left ≡ w → Gives r w
line_stopped (Ok x) f d l left others w h e refused same = absurd e
line_stopped (Err g) f d l left others w h e refused same =
    let stopped : IsRefusal (fault_of f) (drafted_from d (Ok l ∷ others)) = through (fault_of f) (draft_step d l) (λ x. drafted_from x others) refused in
    same_refusal (fault_of g) (fault_of f) w (ap fault_of e) (subst (IsRefusal (fault_of f)) (ap (drafted_from d) (sym h) ∙ same) stopped)
