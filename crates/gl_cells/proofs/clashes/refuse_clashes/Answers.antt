use Rattle.std.proofs.Common.{◌≡◌, ◌<◌, ◌∙◌, ℕ, suc, List, ◌∷◌, length, map, drop, drop-cons, get_or, Option, Some, None, sym, ap}
use Rattle.gl_fault.specs.Refusals.{first_some, IsFound}
use Rattle.gl_fault.proofs.AnswerLaws.{found_on}
use Rattle.gl_text.specs.Decks.{Sub}
use Rattle.gl_base.specs.Libraries.{Cause, clash_cause}
use Rattle.gl_cells.specs.Causes.{cause_of}
use Rattle.gl_cells.specs.Limited.{clashes_cause}
use Rattle.gl_cells.proofs.clashes.refuse_clashes.Goals as goal

-- the refusal of the item at which all that is left is refused
refused_at : (told : Option Cause) (f : Sub → Option Cause) (subs cells : List Sub) (i : ℕ) (s : Sub) → cells ≡ subs → i < length cells → s ≡ get_or cells i s
    → first_some (map f (drop i subs)) ≡ first_some (map f subs) → IsFound told (f s) → IsFound told (first_some (map f subs))
refused_at None f subs cells i s same lt is e h = tt
refused_at (Some g) f subs cells i s same lt is e h =
    let front : drop i cells ≡ s ∷ drop (suc i) cells = drop-cons cells i s lt ∙ ap (λ t. t ∷ drop (suc i) cells) (sym is) in
    sym e ∙ ap (λ ss. first_some (map f (drop i ss))) (sym same) ∙ ap (λ ss. first_some (map f ss)) front ∙ ap (λ o. first_some (o ∷ map f (drop (suc i) cells))) h

pub returns-in_err-refuse_clash-clause-refused : goal.returns-in_err-refuse_clash-clause-refused
returns-in_err-refuse_clash-clause-refused c =
    let f = c.in_err-refuse_clash.field-0.0 in
    let subs = c.args.subs.now in
    let rails = c.args.rails.now in
    found_on cause_of c.from_residual.result f (clashes_cause rails subs subs) c.from_residual.ensures.1
    (refused_at (cause_of f) (clash_cause rails subs) subs c.as_slice-cells.result.now c.loop-cell.cell-index c.cell-item.result c.as_slice-cells.ensures.subs c.loop-cell-test.true c.cell-item.is c.loop-cell.invariant c.in_err-refuse_clash.ensures.refused)
