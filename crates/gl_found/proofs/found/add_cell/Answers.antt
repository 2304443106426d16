use Rattle.std.proofs.Common.{◌∙◌, ◌++◌, sym, ap}
use Rattle.std.specs.Prelude.{filter_map}
use Rattle.std.proofs.lemmas.List.{append-nil}
use Rattle.std.proofs.lemmas.Slice.Zip.{either_empty_from_Zip}
use Rattle.gl_found.specs.Founds.{found_at}
use Rattle.gl_found.proofs.ZipLaws.{zip_none}
use Rattle.gl_found.proofs.found.add_cell.Goals as goal

pub returns : goal.returns
returns c =
    let round = c.args.round.now in
    let found = c.loop-instance.found.items in
    let done = zip_none c.loop-instance.instance-iterator.a.rest.now c.loop-instance.instance-iterator.b.rest.now (either_empty_from_Zip c.loop-instance.instance-iterator c.next.new.self c.next.result c.in-None.is c.next.ensures.steps) in
    record { added = sym (append-nil found) ∙ sym (ap (λ zs. found ++ filter_map (found_at round.circuit round.origins c.args.cell.now.cell) zs) done) ∙ c.loop-instance.invariant }
