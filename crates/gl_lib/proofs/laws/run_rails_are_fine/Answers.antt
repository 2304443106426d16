use Rattle.gl_lib.proofs.RailLaws.{rails_fine}
use Rattle.gl_lib.proofs.laws.run_rails_are_fine.Goals as goal

pub returns : goal.returns
returns c = record { rails = rails_fine }
