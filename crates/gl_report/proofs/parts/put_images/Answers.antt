use Rattle.std.proofs.Common.{◌∙◌, ◌++◌, List, ℕ, sym, ap}
use Rattle.std.proofs.lemmas.List.{append-nil}
use Rattle.std.proofs.lemmas.Slice.Zip.{either_empty_from_Zip}
use Rattle.gl_match.specs.declared.spot.Spot.{Spot}
use Rattle.gl_base.specs.Reports.{name_at}
use Rattle.gl_report.specs.Pieces.{behind_blanks}
use Rattle.gl_report.proofs.PartLaws.{no_images}
use Rattle.gl_report.proofs.parts.put_images.Goals as goal

pub returns : goal.returns
returns c =
    let out = c.loop-card.out.items in
    let iterator = c.loop-card.card-iterator in
    let done = no_images (λ (s : Spot). name_at c.args.names.now.devices s.dev) iterator.a.rest.now iterator.b.rest.now (either_empty_from_Zip iterator c.next.new.self c.next.result c.in-None.is c.next.ensures.steps) in
    record { ok = sym (append-nil out) ∙ (sym (ap (λ (ws : List (List ℕ)). out ++ behind_blanks ws) done) ∙ c.loop-card.invariant) }
