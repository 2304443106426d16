use Rattle.gl_name.proofs.NamesLaws.{one_stem}
use Rattle.gl_name.proofs.laws.at_most_one_stem.Goals as goal

pub returns : goal.returns
returns c = record { one = one_stem }
