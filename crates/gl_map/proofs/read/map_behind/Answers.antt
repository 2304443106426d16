use Rattle.std.proofs.Common.{◌∙◌, [], ap, sym, subst, arith, length}
use Rattle.std.proofs.lemmas.List.{length-map}
use Rattle.gl_fault.proofs.AnswerLaws.{gives_refusal}
use Rattle.gl_map.specs.Refusals.{fault_of, Gives}
use Rattle.gl_map.specs.Rows.{row_value, rows_in}
use Rattle.gl_map.specs.Checks.{named}
use Rattle.gl_map.proofs.LoopLaws.{misplaced, with_end}
use Rattle.gl_map.proofs.read.map_behind.Goals as goal

pub map_of-requires : goal.map_of-requires
map_of-requires c = record { few = omega (arith, c.in_ok-rows.ensures.few, c.requires.size, ap length c.items.ensures.items, length-map c.items.result.now row_value) }

pub returns-in_err-rows : goal.returns-in_err-rows
returns-in_err-rows c = record { map = gives_refusal fault_of _ c.from_residual.result c.in_err-rows.field-0.0 _ c.from_residual.ensures.1 (misplaced (fault_of c.in_err-rows.field-0.0) (rows_in c.args.bytes.now) c.in_err-rows.ensures.rows) }

pub returns-then-has_end : goal.returns-then-has_end
returns-then-has_end c =
    let whole = with_end (rows_in c.args.bytes.now) c.in_ok-rows.rows c.in_ok-rows.ensures.rows (sym c.has_end.ensures.end ∙ c.if-has_end.true) in
    record { map = subst (Gives c.map_of.result) (ap (named 2 []) c.items.ensures.items ∙ sym whole) c.map_of.ensures.map }
