use Rattle.std.proofs.Common.{◌∙◌, ◌+◌, ◌++◌, List, sym, ap}
use Rattle.std.specs.List.{enumerate_from}
use Rattle.std.proofs.lemmas.List.{append-nil}
use Rattle.std.proofs.lemmas.Slice.Zip.{either_empty_from_Zip}
use Rattle.gl_match.specs.declared.role.Pick.{Pick}
use Rattle.gl_match.specs.Listing.{Instance}
use Rattle.gl_found.proofs.ZipLaws.{zip_none}
use Rattle.gl_report.specs.Pieces.{instance_lines}
use Rattle.gl_report.proofs.cells.put_instances.Goals as goal

pub returns-clause-ok : goal.returns-clause-ok
returns-clause-ok c =
    let out = c.loop-item.out.items in
    let iterator = c.loop-item.item-iterator in
    let done = zip_none iterator.a.rest.now iterator.b.rest.now (either_empty_from_Zip iterator c.next.new.self c.next.result c.in-None.is c.next.ensures.steps) in
    sym (append-nil out) ∙ (sym (ap (λ (ps : List (Instance × Pick)). out ++ instance_lines c.args.names.now c.args.cell.now (enumerate_from (c.loop-item.number + 1) ps)) done) ∙ c.loop-item.invariant.text)
