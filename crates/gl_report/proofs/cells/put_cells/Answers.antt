use Rattle.std.proofs.Common.{◌∙◌, ◌++◌, List, sym, ap}
use Rattle.std.specs.Prelude.{flat_map}
use Rattle.std.specs.List.{enumerate_from}
use Rattle.std.proofs.lemmas.List.{append-nil}
use Rattle.std.proofs.lemmas.Slice.Zip.{either_empty_from_Zip}
use Rattle.gl_text.specs.Decks.{Sub}
use Rattle.gl_base.specs.Libraries.{Cell}
use Rattle.gl_found.proofs.ZipLaws.{zip_none}
use Rattle.gl_report.specs.Shown.{told_at}
use Rattle.gl_report.specs.Pieces.{parts_text}
use Rattle.gl_report.proofs.cells.put_cells.Goals as goal

pub returns-clause-ok : goal.returns-clause-ok
returns-clause-ok c =
    let out = c.loop-sub.out.items in
    let iterator = c.loop-sub.sub-iterator in
    let told = told_at c.args.level c.args.cells.now in
    let done = zip_none iterator.a.rest.now iterator.b.rest.now (either_empty_from_Zip iterator c.next.new.self c.next.result c.in-None.is c.next.ensures.steps) in
    sym (append-nil out) ∙ (sym (ap (λ (ps : List (Sub × Cell)). out ++ parts_text c.args.names.now (flat_map told (enumerate_from c.loop-sub.number ps))) done) ∙ c.loop-sub.invariant.text)
