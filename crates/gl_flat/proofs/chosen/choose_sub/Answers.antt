use Rattle.std.proofs.Common.{◌∙◌, ap, sym, subst, Result, Err, Ok}
use Rattle.std.specs.Prelude.{Some}
use Rattle.gl_fault.specs.Refusals.{IsRefusal, or_else}
use Rattle.gl_fault.proofs.AnswerLaws.{given, none_is}
use Rattle.gl_text.specs.LogicalLines.{Fault, no_top}
use Rattle.gl_deck.specs.Bodies.{bodies_value}
use Rattle.gl_flat.specs.Refusals.{fault_of}
use Rattle.gl_flat.specs.Steps.{beside_fault}
use Rattle.gl_flat.proofs.ChosenLaws.{Picked, picked, found_in, none_chosen, sub_chosen}
use Rattle.gl_flat.proofs.chosen.choose_sub.Goals as goal

pub returns-in_default-clause-refused : goal.returns-in_default-clause-refused
returns-in_default-clause-refused c =
    let d = c.args.deck.now in
    none_chosen d c.args.name.now (found_in d c.subs.result.now c.args.name.now _ c.in_default.ensures.found c.subs.ensures.subs) ∙ ap (λ n. Err (no_top n)) (sym c.in_ok-name_copy.ensures.copy)

pub returns-in-Some-beside_refusal-clause-refused : goal.returns-in-Some-beside_refusal-clause-refused
returns-in-Some-beside_refusal-clause-refused c =
    let d = c.args.deck.now in
    let s = c.in-Some.sub.now in
    let o = fault_of c.in-Some-beside_refusal.fault in
    let is = sub_chosen d c.args.name.now s (bodies_value c.top.result.now) (found_in d c.subs.result.now c.args.name.now _ c.in-Some.ensures.found c.subs.ensures.subs) c.top.ensures.top in
    subst (λ (w : Result Picked Fault). IsRefusal o w) (sym is) (given fault_of c.in-Some-beside_refusal.fault (beside_fault (bodies_value c.top.result.now)) (picked (Some s.head) s.cards) c.in-Some-beside_refusal.ensures.beside)

pub returns-clause-ok : goal.returns-clause-ok
returns-clause-ok c =
    let d = c.args.deck.now in
    let s = c.in-Some.sub.now in
    sub_chosen d c.args.name.now s (bodies_value c.top.result.now) (found_in d c.subs.result.now c.args.name.now _ c.in-Some.ensures.found c.subs.ensures.subs) c.top.ensures.top
    ∙ ap (λ o. or_else o (picked (Some s.head) s.cards)) (none_is fault_of (beside_fault (bodies_value c.top.result.now)) c.in_default-beside_refusal.ensures.beside)
    ∙ ap (λ h. Ok (Some h, s.cards)) (sym c.head.ensures.head) ∙ ap (λ cs. Ok (Some c.head.result.now, cs)) (sym c.cards.ensures.cards)
