use Rattle.std.proofs.Common.{◌∙◌, add-one, Bool, false, List, ap, map, sym}
use Rattle.gl_cells.specs.Outlines.{Outline, marks_through, is_skipped_by}
use Rattle.gl_cells.proofs.PlacedLaws.{first_values, next_marks}
use Rattle.gl_cells.proofs.skips.marks.Goals as goal

pub loop-calls-init : goal.loop-calls-init
loop-calls-init c = λ subs e. c.in_ok-marks.ensures.items_if_clones_equal (λ y h. h) ∙ first_values false subs c.args.cells.now e

pub loop-calls-preserved : goal.loop-calls-preserved
loop-calls-preserved c = λ subs e.
    let n = c.loop-calls.calls in
    c.in_ok-marks-2.ensures.marks
    ∙ ap (λ (bs : List Bool). map (is_skipped_by bs) c.args.cells.now) (c.deref.ensures.value ∙ c.loop-calls.invariant subs e)
    ∙ ap (λ (os : List Outline). map (is_skipped_by (marks_through subs n)) os) e
    ∙ next_marks subs n ∙ ap (λ k. marks_through subs k) (sym (add-one n))
