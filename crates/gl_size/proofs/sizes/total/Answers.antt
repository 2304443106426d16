use Rattle.std.proofs.Common.{◌∙◌, ◌+◌, List, ℕ, min, ap}
use Rattle.std.specs.Prelude.{sum_by, slice_index}
use Rattle.gl_text.specs.Decks.{callees}
use Rattle.gl_text.specs.Flattening.{DEPTH}
use Rattle.gl_deck.specs.Bodies.{bodies_value}
use Rattle.gl_deck.specs.Places.{places_of}
use Rattle.gl_size.specs.Tallies.{own_count}
use Rattle.gl_size.specs.Counts.{counts_of}
use Rattle.gl_size.proofs.CountLaws.{counted_at}
use Rattle.gl_size.proofs.sizes.total.Goals as goal

pub returns : goal.returns
returns c =
    let kind = c.args.counted in
    let subs = c.args.subs.now in
    let cards = bodies_value c.args.cards.now in
    let places = places_of subs (callees cards) in
    let own = own_count kind cards in
    let m = c.most-most.result in
    let called = c.called_total-called.ensures.total ∙ ap (λ (cs : List ℕ). min (sum_by (slice_index cs) places) m) c.requires.of in
    record {
      total =
          c.add.ensures.sum
          ∙ ap (λ o. min (o + c.called_total-called.result) m) c.own_total.ensures.total
          ∙ ap (λ k. min (own + k) m) called
          ∙ ap (λ n. min (own + min (sum_by (slice_index (counts_of kind subs DEPTH)) places) n) n) c.most-most.ensures.most
          ∙ counted_at kind subs DEPTH cards;
    }
