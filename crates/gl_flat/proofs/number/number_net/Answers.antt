use Rattle.std.proofs.Common.{arith}
use Rattle.gl_flat.proofs.SeenNumbers.{number_fits}
use Rattle.gl_flat.proofs.number.number_net.Goals as goal

pub overflow_cast-result : goal.overflow_cast-result
overflow_cast-result c = let l = number_fits c.args.seen.now c.add_net.new.self c.args.net.now c.in_ok-number.number c.requires.few c.in_ok-number.ensures.ok c.in_ok-number.ensures.number in omega (arith, l)
