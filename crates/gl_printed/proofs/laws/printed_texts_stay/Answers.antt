use Rattle.gl_printed.proofs.ReprintedLaws.{text_stays}
use Rattle.gl_printed.proofs.laws.printed_texts_stay.Goals as goal

pub returns : goal.returns
returns c = record { stay = text_stays }
