use Rattle.gl_flat.proofs.GivenFlats.{given, devices_differ}
use Rattle.gl_flat.proofs.OneNet.{one_net, one_number}
use Rattle.gl_flat.proofs.laws.flat_names_are_one_to_one.Goals as goal

pub returns : goal.returns
returns c = record {
  devices = λ deck rails top flat h. devices_differ flat (given deck rails top flat h);
  nets = λ deck rails top flat m n h i j e. one_net flat m n (given deck rails top flat h).clash i j e;
  numbers = λ deck rails top flat m n h i j e. one_number flat m n (given deck rails top flat h).clash i j e;
}
