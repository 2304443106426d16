use Rattle.std.proofs.Common.{◌∙◌, List, Bool, ap}
use Rattle.std.specs.List.{list_any}
use Rattle.gl_text.specs.Decks.{callees}
use Rattle.gl_text.specs.Flattening.{DEPTH}
use Rattle.gl_deck.specs.Bodies.{bodies_value}
use Rattle.gl_size.specs.Excesses.{Sizes}
use Rattle.gl_deck.specs.Places.{places_of}
use Rattle.gl_size.proofs.ChainLaws.{at, chain_at}
use Rattle.gl_size.proofs.sizes.Sizes.is_too_deep.Goals as goal

pub returns : goal.returns
returns c =
    let subs = c.args.subs.now in
    let cards = bodies_value c.args.cards.now in
    let places = places_of subs (callees cards) in
    let marks = c.deref.ensures.value ∙ ap (λ (s : Sizes). s.deep) (c.self.view_is ∙ c.requires.of.sizes) in
    record { deep = c.call_marked.ensures.marked ∙ ap (λ (bs : List Bool). list_any (at bs) places) marks ∙ chain_at subs DEPTH cards c.requires.of.names_differ }
