use Rattle.gl_fault.proofs.FirstLaws.{first_more}
use Rattle.gl_fault.proofs.laws.first_refusals.Goals as goal

pub returns-clause-behind : goal.returns-clause-behind
returns-clause-behind c = first_more
