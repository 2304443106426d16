use Rattle.gl_lifting.proofs.LiftsBackLaws.{fewer_links, all_links, theorem}
use Rattle.gl_lifting.proofs.lifted_laws.what_is_lifted_can_be_restored.Goals as goal

pub returns : goal.returns
returns c = record { fewer_links = fewer_links; links = all_links; theorem = theorem }
