use Rattle.std.proofs.Common.{◌<◌, ◌≤◌, ◌+◌, arith, length, subst, sym}
use Rattle.std.proofs.lemmas.Bool.Decides.{nat_tests}
use Rattle.gl_fault.proofs.AnswerLaws.{gives_refusal}
use Rattle.gl_map.specs.Refusals.{fault_of}
use Rattle.gl_map.specs.Rows.{rows_in}
use Rattle.gl_map.proofs.LineLaws.{behind_shorter}
use Rattle.gl_map.proofs.LoopLaws.{row_taken, row_refused, one_longer}
use Rattle.gl_map.proofs.rows.rows_of.Goals as goal

pub returns-in_err-take-clause-rows : goal.returns-in_err-take-clause-rows
returns-in_err-take-clause-rows c =
    let rest = c.loop-rest.rest.now in
    let some : 0 < length rest = grind (arith, nat_tests) in
    let refused = row_refused _ _ c.loop-rest.line c.loop-rest.rows _ rest c.split_title.result.0.now c.split_title.result.1.now some c.split_title.ensures.title c.split_title.ensures.after c.row_of.ensures.row
    (c.in_err-take.ensures.refused (rows_in c.split_title.result.1.now)) c.loop-rest.invariant.same in
    gives_refusal fault_of _ c.from_residual.result c.in_err-take.field-0.0 _ c.from_residual.ensures.1 refused

pub loop-rest-preserved : goal.loop-rest-preserved
loop-rest-preserved c =
    let rest = c.loop-rest.rest.now in
    let some : 0 < length rest = grind (arith, nat_tests) in
    let shorter : length c.split_title.result.1.now + 1 ≤ length rest = subst (λ ys. length ys + 1 ≤ length rest) (sym c.split_title.ensures.after) (behind_shorter rest some) in
    record {
      same = row_taken _ c.loop-rest.line c.loop-rest.rows c.take.new.self _ rest c.split_title.result.0.now c.split_title.result.1.now some c.split_title.ensures.title c.split_title.ensures.after c.row_of.ensures.row
          c.in_ok-take.ensures.placed c.in_ok-take.ensures.ok c.loop-rest.invariant.same;
      count = omega (arith, c.loop-rest.invariant.count, one_longer c.take.new.self c.loop-rest.rows _ c.in_ok-take.ensures.ok);
      few = omega (arith, c.loop-rest.invariant.few, shorter);
    }
