use Rattle.std.proofs.Common.{◌∙◌, arith, ap, sym, not}
use Rattle.std.specs.Prelude.{option_map}
use Rattle.gl_lifting.specs.Renaming.{is_for_none, extra}
use Rattle.gl_restore.proofs.LineLaws.{line_more, line_bad, line_none}
use Rattle.gl_restore.proofs.refused.refuse_extra_nets.Goals as goal

pub returns-then-not-has-clause-refused : goal.returns-then-not-has-clause-refused
returns-then-not-has-clause-refused c =
    ap (option_map extra) (line_bad (is_for_none c.args.nets.now) c.args.lines.now c.loop-line.line-index c.line-item.result c.loop-line.number _ c.loop-line-test.true c.line-item.is (ap not (sym c.has.ensures.has ∙ c.if-not-has.true)) c.loop-line.invariant.first)

pub loop-line-preserved : goal.loop-line-preserved
loop-line-preserved c = record {
  first = line_more (is_for_none c.args.nets.now) c.args.lines.now c.loop-line.line-index c.line-item.result c.loop-line.number _ c.loop-line-test.true c.line-item.is (ap not (sym c.has.ensures.has ∙ c.if-not-has.false)) c.loop-line.invariant.first;
  count = omega (arith, c.loop-line.invariant.count);
}

pub returns-clause-ok : goal.returns-clause-ok
returns-clause-ok c = line_none (is_for_none c.args.nets.now) c.args.lines.now c.loop-line.line-index c.loop-line.number _ c.loop-line-test.false c.loop-line.invariant.first
