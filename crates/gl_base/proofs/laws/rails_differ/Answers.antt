use Rattle.gl_base.proofs.TextLaws.{rails_are}
use Rattle.gl_base.proofs.laws.rails_differ.Goals as goal

pub returns : goal.returns
returns c = record { rails = rails_are }
