use Rattle.std.proofs.Common.{true}
use Rattle.gl_name.proofs.tests.read.Goals as goal

pub returns : goal.returns
returns c = record { read = c.read_decks_are_fine.ensures.are_fine true c.args.bytes.now c.in_ok-read.field-0 c.in_ok-read.ensures.read }
