use Rattle.std.proofs.Common.{◌∙◌, ◌++◌, map, sym, ap}
use Rattle.std.specs.Prelude.{flat_map}
use Rattle.std.proofs.lemmas.List.{append-nil}
use Rattle.std.proofs.lemmas.Slice.Zip.{either_empty_from_Zip}
use Rattle.gl_text.specs.Decks.{body_line}
use Rattle.gl_lifting.specs.LiftedDecks.{variant_card}
use Rattle.gl_write.proofs.EndLaws.{cards_none}
use Rattle.gl_write.proofs.variant_card.put_cards.Goals as goal

pub returns : goal.returns
returns c = record {
  ok = λ s.
      let out = c.loop-card.out.items in
      let left = c.loop-card.card-iterator in
      let done = cards_none left.a.rest.now left.b.rest.now (either_empty_from_Zip left c.next.new.self c.next.result c.in-None.is c.next.ensures.steps) in
      sym (append-nil out) ∙ sym (ap (λ zs. out ++ flat_map body_line (map (variant_card s c.args.names.now) zs)) done) ∙ c.loop-card.invariant s;
}
