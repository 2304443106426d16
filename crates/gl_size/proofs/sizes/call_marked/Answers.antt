use Rattle.std.proofs.Common.{◌∙◌, sym}
use Rattle.std.specs.List.{list_any}
use Rattle.gl_text.specs.Decks.{callees}
use Rattle.gl_deck.specs.Bodies.{bodies_value}
use Rattle.gl_deck.specs.Places.{places_of}
use Rattle.gl_size.proofs.ChainLaws.{at, any_rest}
use Rattle.gl_size.proofs.sizes.call_marked.Goals as goal

pub loop-rest-preserved : goal.loop-rest-preserved
loop-rest-preserved c =
    let marks = c.args.marks.now in
    let subs = c.args.subs.now in
    let whole = list_any (at marks) (places_of subs (callees (bodies_value c.args.cards.now))) in
    any_rest (at marks) subs c.loop-rest.rest.now c.card-item.result whole c.in-len1-up.len_at_least c.card-item.is (sym c.calls_marked.ensures.marked ∙ c.if-calls_marked.false) c.loop-rest.invariant
