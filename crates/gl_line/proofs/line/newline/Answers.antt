use Rattle.gl_line.proofs.FirstLine.{first_is}
use Rattle.gl_line.proofs.line.newline.Goals as goal

pub returns : goal.returns
returns c = record { first = first_is c.args.bytes.now c.find_byte.result c.find_byte.ensures }
