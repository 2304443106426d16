use Rattle.std.proofs.Common.{◌∙◌}
use Rattle.gl_card.specs.declared.line.Parts.{Parts}
use Rattle.gl_card.proofs.PrintLaws.{device_line}
use Rattle.gl_card.proofs.print.device_parts.Goals as goal

pub returns : goal.returns
returns c =
    let p : Parts = record { first = c.of.result.first; one = c.of.result.one; many = c.nodes.result; last = c.model.result; tail = c.as_bytes.result } in
    let first = c.of.ensures.first ∙ c.as_bytes-2.ensures.bytes ∙ c.name.ensures.name in
    record { line = device_line p c.args.card.now c.of.ensures.none.0 first c.nodes.ensures.nodes c.model.ensures.model (c.as_bytes.ensures.bytes ∙ c.tail.ensures.tail) }
