use Rattle.std.proofs.Common.{◌≡◌}
use Rattle.gl_text.specs.LogicalLines.{logical_lines}
use Rattle.gl_line.specs.Lines.{lines_left}
use Rattle.gl_deck.specs.Drafts.{drafted_from, empty_draft}
use Rattle.gl_deck.proofs.ReadLaws.{AreRead}
use Rattle.gl_deck.proofs.lines.drafted.Given as goal

abbrev pub invariant-loop-line : goal.invariant-loop-line
invariant-loop-line l = record {
  same : drafted_from l.draft (lines_left l.line-iterator) ≡ drafted_from empty_draft (logical_lines l.first_line l.bytes);
  read : AreRead (lines_left l.line-iterator);
}
