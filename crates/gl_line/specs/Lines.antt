-- What an iterator shows.
use Rattle.std.specs.Prelude.{List, Result}
use Rattle.gl_text.specs.LogicalLines.{Line, Fault}
use Rattle.gl_line.specs.Answers.{left_of}
use Rattle.gl_line.specs.declared.state.LogicalLines.{LogicalLines}

-- the logical lines that an iterator has left
abbrev pub lines_left : LogicalLines → List (Result Line Fault)
lines_left s = left_of s.left
