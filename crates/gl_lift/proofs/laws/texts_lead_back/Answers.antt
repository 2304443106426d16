use Rattle.gl_lift.proofs.WrittenLaws.{is_lifted, is_restored}
use Rattle.gl_lift.proofs.laws.texts_lead_back.Goals as goal

pub returns : goal.returns
returns c = record { lifted = is_lifted; restored = is_restored c.what_is_lifted_can_be_restored.ensures.theorem }
