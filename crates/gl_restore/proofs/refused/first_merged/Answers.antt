use Rattle.std.proofs.Common.{◌∙◌, arith, ap, sym, not, take}
use Rattle.gl_lifting.specs.Renaming.{is_merged}
use Rattle.gl_restore.proofs.LineLaws.{line_more, line_bad, line_none}
use Rattle.gl_restore.proofs.MergeLaws.{merged_is, olds_more}
use Rattle.gl_restore.proofs.refused.first_merged.Goals as goal

pub loop-line-preserved : goal.loop-line-preserved
loop-line-preserved c =
    let lines = c.args.lines.now in
    let i = c.loop-line.line-index in
    let old_is = c.in_ok-old.ensures.bytes ∙ c.as_bytes.ensures.bytes in
    let merged = merged_is (take i lines) _ _ c.line-item.result _ c.loop-line.invariant.olds old_is c.in_ok-is_new.ensures.added in
    record {
      first = line_more is_merged lines i c.line-item.result c.loop-line.number _ c.loop-line-test.true c.line-item.is (merged ∙ ap not c.if-not-is_new.false) c.loop-line.invariant.first;
      count = omega (arith, c.loop-line.invariant.count);
      olds = olds_more lines i c.line-item.result _ _ _ _ c.loop-line-test.true c.line-item.is c.loop-line.invariant.olds old_is c.in_ok-is_new.ensures.added c.if-not-is_new.false c.in_ok-is_new.ensures.keys;
    }

pub returns-then-not-is_new : goal.returns-then-not-is_new
returns-then-not-is_new c =
    let lines = c.args.lines.now in
    let i = c.loop-line.line-index in
    let old_is = c.in_ok-old.ensures.bytes ∙ c.as_bytes.ensures.bytes in
    let merged = merged_is (take i lines) _ _ c.line-item.result _ c.loop-line.invariant.olds old_is c.in_ok-is_new.ensures.added in
    record { first = sym (line_bad is_merged lines i c.line-item.result c.loop-line.number _ c.loop-line-test.true c.line-item.is (merged ∙ ap not c.if-not-is_new.true) c.loop-line.invariant.first) }

pub returns : goal.returns
returns c = record { first = sym (line_none is_merged c.args.lines.now c.loop-line.line-index c.loop-line.number _ c.loop-line-test.false c.loop-line.invariant.first) }
