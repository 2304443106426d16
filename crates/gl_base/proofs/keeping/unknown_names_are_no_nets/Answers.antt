use Rattle.gl_base.proofs.KeepLaws.{known_are_nets, unknown_is_first}
use Rattle.gl_base.proofs.keeping.unknown_names_are_no_nets.Goals as goal

pub returns : goal.returns
returns c = record { known = known_are_nets; first = unknown_is_first }
