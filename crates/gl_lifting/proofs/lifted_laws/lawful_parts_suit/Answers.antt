use Rattle.gl_lifting.proofs.SideLaws.{few_composites, some_net, all_suit}
use Rattle.gl_lifting.proofs.lifted_laws.lawful_parts_suit.Goals as goal

pub returns : goal.returns
returns c = record { few = few_composites; some_net = some_net; suited = all_suit }
