use Rattle.std.proofs.Common.{ap, ◌∙◌}
use Rattle.std.specs.Prelude.{Some}
use Rattle.gl_card.specs.declared.line.Parts.{Parts}
use Rattle.gl_card.proofs.PrintLaws.{call_line}
use Rattle.gl_card.proofs.print.call_parts.Goals as goal

pub returns : goal.returns
returns c =
    let p : Parts = record { first = c.of.result.first; one = c.of.result.one; many = c.nodes.result; last = Some c.sub.result; tail = c.of.result.tail } in
    let first = c.of.ensures.first ∙ c.as_bytes.ensures.bytes ∙ c.name.ensures.name in
    record { line = call_line p c.args.card.now c.of.ensures.none.0 first c.nodes.ensures.nodes (ap (λ s. Some s) c.sub.ensures.sub) c.of.ensures.empty.1 }
