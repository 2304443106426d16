use Rattle.std.proofs.Common.{◌∙◌, arith, ap, sym}
use Rattle.std.specs.Prelude.{option_map}
use Rattle.gl_lifting.specs.Renaming.{has_other_letter, letter_changed}
use Rattle.gl_restore.proofs.LineLaws.{line_more, line_bad, line_none}
use Rattle.gl_restore.proofs.refused.refuse_letters.Goals as goal

pub returns-then-has_two_letters-clause-refused : goal.returns-then-has_two_letters-clause-refused
returns-then-has_two_letters-clause-refused c =
    ap (option_map letter_changed) (line_bad has_other_letter c.args.lines.now c.loop-line.line-index c.line-item.result c.loop-line.number _ c.loop-line-test.true c.line-item.is (sym c.has_two_letters.ensures.letters ∙ c.if-has_two_letters.true) c.loop-line.invariant.first)

pub loop-line-preserved : goal.loop-line-preserved
loop-line-preserved c = record {
  first = line_more has_other_letter c.args.lines.now c.loop-line.line-index c.line-item.result c.loop-line.number _ c.loop-line-test.true c.line-item.is (sym c.has_two_letters.ensures.letters ∙ c.if-has_two_letters.false) c.loop-line.invariant.first;
  count = omega (arith, c.loop-line.invariant.count);
}

pub returns-clause-ok : goal.returns-clause-ok
returns-clause-ok c = line_none has_other_letter c.args.lines.now c.loop-line.line-index c.loop-line.number _ c.loop-line-test.false c.loop-line.invariant.first
