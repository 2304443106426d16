use Rattle.gl_printed.proofs.FlatDeckLaws.{flat_again}
use Rattle.gl_printed.proofs.laws.flat_texts_read_back.Goals as goal

pub returns : goal.returns
returns c = record { read_back = flat_again }
