use Rattle.std.proofs.Common.{◌-◌, ◌∙◌, sym, ap, cond, eqb, length, take}
use Rattle.gl_text.specs.LogicalLines.{trim_end}
use Rattle.gl_line.proofs.Trims.{by_last}
use Rattle.gl_line.proofs.trim.without_returns.Goals as goal

pub returns-then-not-is_return : goal.returns-then-not-is_return
returns-then-not-is_return c =
    let xs = c.loop-rest.rest.now in
    let f = sym c.is_return.ensures.is_return ∙ c.if-not-is_return.true in
    record { trimmed = sym (by_last (λ b. eqb b 13) xs c.in-len1-up.len_at_least ∙ ap (λ b. cond b (trim_end (λ b. eqb b 13) (take (length xs - 1) xs)) xs) f) ∙ c.loop-rest.invariant }

pub loop-rest-preserved : goal.loop-rest-preserved
loop-rest-preserved c =
    let xs = c.loop-rest.rest.now in
    let f = sym c.is_return.ensures.is_return ∙ c.if-not-is_return.false in
    sym (by_last (λ b. eqb b 13) xs c.in-len1-up.len_at_least ∙ ap (λ b. cond b (trim_end (λ b. eqb b 13) (take (length xs - 1) xs)) xs) f) ∙ c.loop-rest.invariant
