use Rattle.gl_lift.proofs.Plain.{plain_counted, same_unknown}
use Rattle.gl_lift.proofs.laws.plain_texts_are_texts.Goals as goal

pub returns : goal.returns
returns c = record { counted = plain_counted; unknown = same_unknown }
