use Rattle.gl_text.specs.Cards.{has_parameters, has_long_tail}
use Rattle.gl_card.proofs.FaultLaws.{or_two}
use Rattle.gl_card.proofs.card.Card.late_fault.Goals as goal

pub returns : goal.returns
returns c =
    let l = c.args.line.now in
    record { late = or_two c.parameter_fault.result c.tail_fault.result c.or.result (has_parameters l) (has_long_tail l) c.or.ensures c.parameter_fault.ensures.equal_sign c.tail_fault.ensures.too_long }
