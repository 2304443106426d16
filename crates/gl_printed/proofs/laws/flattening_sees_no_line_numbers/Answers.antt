use Rattle.gl_printed.proofs.FlatAlike.{alike}
use Rattle.gl_printed.proofs.laws.flattening_sees_no_line_numbers.Goals as goal

pub returns : goal.returns
returns c = record { alike = alike }
