use Rattle.gl_cells.proofs.ReadRanks.{levels_settled, skips_settled}
use Rattle.gl_cells.proofs.laws.levels_and_skips_are_settled.Goals as goal

pub returns : goal.returns
returns c = record { level = levels_settled; skip = skips_settled }
