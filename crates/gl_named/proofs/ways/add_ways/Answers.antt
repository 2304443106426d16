use Rattle.std.proofs.Common.{ap, map}
use Rattle.std.specs.Prelude.{filter_map}
use Rattle.std.proofs.lemmas.Slice.Zip.{either_empty_from_Zip}
use Rattle.gl_match.specs.declared.spot.Spot.{Spot}
use Rattle.gl_deck.specs.Bodies.{body_value, bodies_value}
use Rattle.gl_lifting.specs.Replacement.{Origin}
use Rattle.gl_found.specs.Founds.{origin_in}
use Rattle.gl_found.proofs.ZipLaws.{zip_none}
use Rattle.gl_named.specs.Walks.{way_row}
use Rattle.gl_named.proofs.FirstLaws.{rest_none, both_empty}
use Rattle.gl_named.proofs.ways.add_ways.Goals as goal

pub returns : goal.returns
returns c =
    let cards = c.loop-card.card-iterator.a.rest.now in
    let spots = c.loop-card.card-iterator.b.rest.now in
    let from : Spot → Origin = λ s. origin_in c.args.found.now.origins s.dev in
    let done = zip_none (bodies_value cards) (map from spots) (both_empty body_value from cards spots (either_empty_from_Zip c.loop-card.card-iterator c.next.new.self c.next.result c.in-None.is c.next.ensures.steps)) in
    record { added = λ n. rest_none c.loop-card.ways.items _ _ n (ap (filter_map (way_row c.args.way.now)) done) (c.loop-card.invariant n) }
