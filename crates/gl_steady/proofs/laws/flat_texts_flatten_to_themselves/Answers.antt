use Rattle.std.proofs.Common.{None}
use Rattle.gl_steady.proofs.AgainLaws.{text_again}
use Rattle.gl_steady.proofs.laws.flat_texts_flatten_to_themselves.Goals as goal

pub returns : goal.returns
returns c = record { again = text_again; without_top = text_again None }
