use Rattle.std.proofs.Common.{◌≡◌, ◌+◌, ◌∷◌, map, refl, sym, ◌∙◌}
use Rattle.std.specs.Cow.{cow_slice_items}
use Rattle.gl_text.specs.LogicalLines.{Line, joined, logical_lines, up_to_long, up_to_end}
use Rattle.gl_line.specs.Rest.{groups}
use Rattle.gl_line.proofs.Groups.{group_first, left_is}
use Rattle.gl_line.proofs.steps.next_step.Goals as goal

pub returns-in-Ok-clause-given : goal.returns-in-Ok-clause-given
returns-in-Ok-clause-given c =
    let k = c.in_ok-kept.kept in
    let g = c.in-Ok.gathered in
    let line : Line = record { line = k.line; text = k.text.now } in
    let first = group_first c.args.first (k.line + 1) c.args.bytes.now k.rest.now line c.in_ok-kept.ensures.kept (sym c.is_more.ensures ∙ c.if-is_more.false) in
    let whole : logical_lines c.args.first c.args.bytes.now ≡ up_to_long (up_to_end ((record { line = k.line; text = cow_slice_items g.text }) ∷ map joined (groups g.line g.rest.now))) =
    first ∙ rw (c.in-Ok.ensures.text, c.in-Ok.ensures.groups) refl in
    rw whole (c.judged.ensures.given (map joined (groups g.line g.rest.now)) (left_is g.line g.rest.now c.in-Ok.ensures.none))
