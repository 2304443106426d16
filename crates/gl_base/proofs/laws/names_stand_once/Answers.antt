use Rattle.gl_text.proofs.Names.{names_differ, names_stay, names_were}
use Rattle.gl_base.proofs.laws.names_stand_once.Goals as goal

pub returns : goal.returns
returns c = record { differ = names_differ; kept = names_stay; none_new = names_were }
