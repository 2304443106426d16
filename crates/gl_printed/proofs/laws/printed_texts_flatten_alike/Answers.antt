use Rattle.gl_printed.proofs.ReprintedLaws.{flattens_alike}
use Rattle.gl_printed.proofs.laws.printed_texts_flatten_alike.Goals as goal

pub returns : goal.returns
returns c = record { alike = flattens_alike }
