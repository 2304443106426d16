use Rattle.gl_base.proofs.TextLaws.{numbers_lead_back}
use Rattle.gl_base.proofs.laws.numbers_lead_back.Goals as goal

pub returns : goal.returns
returns c = record { name = numbers_lead_back }
