use Rattle.gl_text.specs.Flattening.{text_fault}
use Rattle.gl_fault.proofs.AnswerLaws.{none_is}
use Rattle.gl_flat.specs.Refusals.{fault_of}
use Rattle.gl_flat.specs.Steps.{flat_by}
use Rattle.gl_flat.proofs.BoundLaws.{names_countable}
use Rattle.gl_flat.proofs.StepLaws.{short_text}
use Rattle.gl_flat.proofs.flattening.length_refusal.Goals as goal

pub name_refusal-requires : goal.name_refusal-requires
name_refusal-requires c =
    let flat = flat_by c.args.frame.now c.args.devices.now in
    record { short = names_countable flat (short_text flat (none_is fault_of (text_fault flat) c.in-None.ensures.too_long)) }
