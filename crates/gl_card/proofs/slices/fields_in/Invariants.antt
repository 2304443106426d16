use Rattle.std.proofs.Common.{◌≡◌, ◌++◌, map}
use Rattle.gl_text.specs.LogicalLines.{fields_of}
use Rattle.gl_line.specs.Fields.{fields_left, text_of, piece_of}
use Rattle.gl_card.proofs.slices.fields_in.Given as goal

abbrev pub invariant-loop-field : goal.invariant-loop-field
invariant-loop-field l = record {
  pieces : map (piece_of l.text) l.found.items ++ fields_left l.field-iterator ≡ fields_of l.text;
  of_text : text_of l.field-iterator ≡ l.text;
}
