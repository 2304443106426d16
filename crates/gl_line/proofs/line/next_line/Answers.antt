use Rattle.std.proofs.Common.{◌∙◌, sym, arith, length, ◌<◌}
use Rattle.std.proofs.lemmas.Bool.Decides.{nat_tests}
use Rattle.gl_line.proofs.FirstLine.{first_line, no_newline}
use Rattle.gl_line.proofs.line.next_line.Goals as goal

pub returns-in-Some-clause-lines : goal.returns-in-Some-clause-lines
returns-in-Some-clause-lines c = first_line c.args.bytes.now c.in-Some.end (sym c.newline.ensures.first ∙ c.in-Some.is)

pub returns-in-None-clause-lines : goal.returns-in-None-clause-lines
returns-in-None-clause-lines c =
    let some : 0 < length c.args.bytes.now = grind (arith, nat_tests) in
    no_newline c.args.bytes.now some (sym c.newline.ensures.first ∙ c.in-None.is)
