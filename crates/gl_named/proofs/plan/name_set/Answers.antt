use Rattle.gl_named.proofs.SetLaws.{set_of}
use Rattle.gl_named.proofs.plan.name_set.Goals as goal

pub returns : goal.returns
returns c = record { names = set_of _ _ _ c.new-set.ensures.empty c.in_ok-add_names.ensures.added }
