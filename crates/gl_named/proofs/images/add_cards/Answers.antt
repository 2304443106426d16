use Rattle.std.proofs.Common.{◌∙◌, ap}
use Rattle.std.specs.Prelude.{◌∷◌, zip}
use Rattle.std.proofs.lemmas.Slice.Zip.{either_empty_from_Zip, Zip-more}
use Rattle.gl_deck.specs.Bodies.{body_value, bodies_value}
use Rattle.gl_found.proofs.ZipLaws.{zip_none}
use Rattle.gl_named.specs.Walks.{cell_pairs}
use Rattle.gl_named.proofs.FirstLaws.{rest_none, rest_more, first_empty}
use Rattle.gl_named.proofs.images.add_cards.Goals as goal

pub returns : goal.returns
returns c =
    let cards = c.loop-card.card-iterator.a.rest.now in
    let spots = c.loop-card.card-iterator.b.rest.now in
    let done = zip_none (bodies_value cards) spots (first_empty body_value cards spots (either_empty_from_Zip c.loop-card.card-iterator c.next.new.self c.next.result c.in-None.is c.next.ensures.steps)) in
    record { added = λ n. rest_none c.loop-card.images.items _ _ n (ap (cell_pairs c.args.nets.now.keys c.args.c.now) done) (c.loop-card.invariant n) }

pub loop-card-preserved : goal.loop-card-preserved
loop-card-preserved c =
    let nets = c.args.nets.now.keys in
    let circuit = c.args.c.now in
    let more = Zip-more c.loop-card.card-iterator c.next.new.self c.next.result _ c.in-Some.is c.next.ensures.steps in
    let split = ap (λ cards. cell_pairs nets circuit (zip (bodies_value cards) c.loop-card.card-iterator.b.rest.now)) more.0 ∙ ap (λ spots. cell_pairs nets circuit (zip (bodies_value (c.in-Some.card.now ∷ c.next.new.self.a.rest.now)) spots)) more.1 in
    λ n. rest_more c.loop-card.images.items c.add_card.new.images.items _ _ _ _ n c.in_ok-add_card.ensures.added split (c.loop-card.invariant n)
