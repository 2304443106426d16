use Rattle.gl_base.specs.Rails.{zero_rail}
use Rattle.gl_named.proofs.SetLaws.{set_behind}
use Rattle.gl_named.proofs.plan.rail_set.Goals as goal

pub returns : goal.returns
returns c = record { rails = set_behind _ _ _ c.args.rails.now c.in_ok-zero.zero zero_rail c.new-set.ensures.empty c.in_ok-zero.ensures.bytes c.in_ok-add_name.ensures.added c.in_ok-add_names.ensures.added }
