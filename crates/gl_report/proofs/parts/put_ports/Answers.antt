use Rattle.std.proofs.Common.{◌∙◌, ◌++◌, List, ℕ, sym, ap}
use Rattle.std.proofs.lemmas.List.{append-nil}
use Rattle.std.proofs.lemmas.Slice.Zip.{either_empty_from_Zip}
use Rattle.gl_base.specs.Reports.{name_at}
use Rattle.gl_report.specs.Pieces.{behind_blanks}
use Rattle.gl_report.proofs.PartLaws.{no_parts}
use Rattle.gl_report.proofs.parts.put_ports.Goals as goal

pub returns : goal.returns
returns c =
    let out = c.loop-port.out.items in
    let iterator = c.loop-port.port-iterator in
    let done = no_parts (name_at c.args.nets.now) iterator.a.rest.now iterator.b.rest.now (either_empty_from_Zip iterator c.next.new.self c.next.result c.in-None.is c.next.ensures.steps) in
    record { ok = sym (append-nil out) ∙ (sym (ap (λ (ws : List (List ℕ)). out ++ behind_blanks ws) done) ∙ c.loop-port.invariant) }
