use Rattle.gl_run.proofs.Backward.{lifted_by, taken_back}
use Rattle.gl_run.proofs.laws.lifted_files_lead_back.Goals as goal

pub returns : goal.returns
returns c = record { lifted = lifted_by c.texts_lead_back.ensures.lifted c.texts_lead_back.ensures.restored; taken = taken_back }
