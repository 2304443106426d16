use Rattle.std.proofs.Common.{◌≡◌, ◌∙◌, ◌++◌, List, ℕ, map, ap, refl}
use Rattle.std.specs.Prelude.{flat_map, zip}
use Rattle.gl_text.specs.Cards.{Head}
use Rattle.gl_text.specs.Decks.{Body, body_line, head_line, ends_line, sub_text}
use Rattle.gl_lifting.specs.Variants.{Variant, Carried}
use Rattle.gl_lifting.specs.LiftedDecks.{variant_card, variant_sub}
use Rattle.gl_write.proofs.LineLaws.{sub_parts}
use Rattle.gl_write.proofs.variant_card.put_variant.Goals as goal

pub returns : goal.returns
returns c = record {
  ok = λ s.
      let out = c.args.out.now.items in
      let names = c.args.names.now in
      let name = c.args.name.now in
      let opened = c.put_opening.new.out.items in
      let v : Variant = record { cell = c.variant.inside.cell.now; cards = c.variant.inside.cards.items } in
      let text : List Body → List Carried → List ℕ = λ cs ks. flat_map body_line (map (variant_card s names) (zip cs ks)) in
      let ports : c.ports.result.now ≡ v.cell.head.ports = c.ports.ensures.ports ∙ ap (λ (h : Head). h.ports) c.head.ensures.head in
      let a = c.in_ok-put_opening.ensures.ok ∙ ap (λ (ps : List (List ℕ)). out ++ head_line (record { name = name; ports = ps })) ports in
      let b = c.in_ok-put_cards.ensures.ok s ∙ ap (λ cs. opened ++ text cs c.deref.result.now) c.cards.ensures.cards ∙ ap (λ ks. opened ++ text v.cell.cards ks) c.deref.ensures.value ∙ ap (λ t. t ++ text v.cell.cards v.cards) a in
      c.in_ok-put_ends.ensures.ok ∙ ap (λ t. t ++ ends_line name) b ∙ sub_parts out (variant_sub s names (name, v)) (text v.cell.cards v.cards) refl
      ∙ ap (λ (w : Variant). out ++ sub_text (variant_sub s names (name, w))) c.variant.view_is;
}
