use Rattle.std.proofs.Common.{[], ◌∙◌, ap, List, flat_map}
use Rattle.std.proofs.lemmas.List.{take_all}
use Rattle.indexmap.specs.IndexSet.{insert_all}
use Rattle.gl_text.specs.LogicalLines.{same_text}
use Rattle.gl_deck.specs.Bodies.{bodies_value}
use Rattle.gl_deck.specs.declared.body.Body.{Body}
use Rattle.gl_deck.proofs.GlobalLaws.{keys_once}
use Rattle.gl_base.specs.Libraries.{nodes_of}
use Rattle.gl_probe.proofs.nets.net_set.Goals as goal

pub returns : goal.returns
returns c =
    let cards = c.args.cards.now in
    let all = take_all c.loop-card.card-index cards c.loop-card-test.false in
    record {
      nets = c.loop-card.invariant
          ∙ (ap (λ (bodies : List Body). insert_all same_text [] (flat_map nodes_of (bodies_value bodies))) all
          ∙ keys_once (flat_map nodes_of (bodies_value cards)));
    }
