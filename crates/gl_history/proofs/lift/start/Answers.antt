use Rattle.std.proofs.Common.{◌∙◌}
use Rattle.gl_history.specs.Plain.{Lifted}
use Rattle.gl_history.proofs.ReachedLaws.{originals_are}
use Rattle.gl_history.proofs.lift.start.Goals as goal

pub returns : goal.returns
returns c =
    let origins = c.in_ok-last_origins.ensures.origins ∙ originals_are c.devices.result c.args.base.devices c.devices.ensures.count in
    record { start = λ i. let l : Lifted = record { rounds = c.new.ensures.items i; last = c.args.base; last_origins = origins i; chosen = 0 } in l }
