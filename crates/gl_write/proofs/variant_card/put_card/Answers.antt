use Rattle.std.proofs.Common.{◌∙◌, ◌++◌, ◌∷◌, [], ap}
use Rattle.gl_text.specs.Decks.{body_line}
use Rattle.gl_deck.specs.Bodies.{body_value}
use Rattle.gl_card.specs.Lines.{spaced_all}
use Rattle.gl_lifting.specs.Variants.{Carried}
use Rattle.gl_lifting.specs.LiftedDecks.{nodes_back, variant_card}
use Rattle.gl_write.specs.Lines.{matched_text}
use Rattle.gl_write.proofs.LineLaws.{card_words}
use Rattle.gl_write.proofs.variant_card.put_card.Goals as goal

pub returns : goal.returns
returns c = record {
  ok = λ s.
      let out = c.args.out.now.items in
      let names = c.args.names.now in
      let card = body_value c.args.card.now in
      let turn = c.carried.inside.turn in
      let m = c.carried.inside.matched in
      let a = c.in_ok-put.ensures.ok ∙ ap (λ t. out ++ t) c.card_name.ensures.name in
      let b = c.in_ok-put_nodes_back.ensures.ok s ∙ ap (λ t. t ++ spaced_all (nodes_back s card turn)) a in
      let e = c.in_ok-put_matched.ensures.ok ∙ ap (λ t. t ++ matched_text names m) b in
      c.in_ok-put-2.ensures.ok ∙ ap (λ t. t ++ 10 ∷ []) e ∙ card_words s names out card turn m
      ∙ ap (λ (k : Carried). out ++ body_line (variant_card s names (card, k))) c.carried.view_is;
}
