use Rattle.std.proofs.Common.{◌≡◌, Result, subst, sym, ap, ◌∙◌}
use Rattle.gl_text.specs.LogicalLines.{Line, logical_lines}
use Rattle.gl_line.specs.Answers as line
use Rattle.gl_line.specs.Lines.{lines_left}
use Rattle.gl_line.specs.declared.fault.LineFault.{LineFault}
use Rattle.gl_deck.specs.Drafts.{drafted_from, empty_draft}
use Rattle.gl_deck.proofs.LoopLaws.{line_refused, line_stopped}
use Rattle.gl_deck.proofs.ReadLaws.{AreRead, lines_read}
use Rattle.gl_deck.proofs.lines.drafted.Goals as goal

pub loop-line-init : goal.loop-line-init
loop-line-init c =
    let lines = c.into_iter-line-iterator.result in
    let same : lines_left lines ≡ logical_lines c.args.first_line c.args.bytes.now = ap lines_left c.into_iter-line-iterator.ensures.into_iter_gives ∙ c.new-line-items.ensures.lines in
    record {
      same = ap (λ d. drafted_from d (lines_left lines)) c.new-draft.ensures.empty ∙ ap (drafted_from empty_draft) same;
      read = subst AreRead (sym same) (lines_read c.args.first_line c.args.bytes.now);
    }

pub returns-in_err-line : goal.returns-in_err-line
returns-in_err-line c =
    let P : Result Line LineFault → Type 0 = λ r. line.GivesFirst r (lines_left c.loop-line.line-iterator) (lines_left c.next.new.self) in
    let f = c.in_err-line.field-0.0 in
    record {
      drafted = line_refused c.from_residual.result f c.loop-line.draft (lines_left c.loop-line.line-iterator) (lines_left c.next.new.self) (drafted_from empty_draft (logical_lines c.args.first_line c.args.bytes.now))
          (subst P c.in_err-line.was c.in-Some.ensures.steps) c.from_residual.ensures.1 c.loop-line.invariant.same;
    }

pub returns-in_err-take : goal.returns-in_err-take
returns-in_err-take c =
    let P : Result Line LineFault → Type 0 = λ r. line.GivesFirst r (lines_left c.loop-line.line-iterator) (lines_left c.next.new.self) in
    record {
      drafted = line_stopped c.from_residual-in_err-take.result c.in_err-take.field-0.0 c.loop-line.draft c.in_ok-line.field-0 (lines_left c.loop-line.line-iterator) (lines_left c.next.new.self)
          (drafted_from empty_draft (logical_lines c.args.first_line c.args.bytes.now)) (subst P c.in_ok-line.was c.in-Some.ensures.steps) c.from_residual-in_err-take.ensures.1 c.in_err-take.ensures.refused c.loop-line.invariant.same;
    }
