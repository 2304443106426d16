use Rattle.std.proofs.Common.{refl}
use Rattle.gl_rows.proofs.keeping.kept_net_rows.Goals as goal

pub returns : goal.returns
returns c = record { nothing_kept = (refl, refl); inner_net_kept = (refl, refl); net_of_a_port_kept = (refl, refl); kept_twice = refl; port_of_the_top_kept = (refl, refl) }
