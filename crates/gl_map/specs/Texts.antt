-- The texts of refusals of reading a map: number, name, and the field with its value, with one blank between each two.
use Rattle.std.specs.Prelude.{ℕ, List, [], codes}
use Rattle.gl_lifting.specs.MapReading.{MapFault, bad_header, bad_line, no_end, double_new}
use Rattle.gl_said.specs.Texts.{numbered}

-- a refusal of reading a map
abbrev pub fault_text : MapFault → List ℕ
fault_text bad_header = codes "40 BadHeader"
fault_text (bad_line line) = numbered (codes "41 BadLine line=") line []
fault_text no_end = codes "42 NoEnd"
fault_text (double_new line) = numbered (codes "43 DoubleNew line=") line []
