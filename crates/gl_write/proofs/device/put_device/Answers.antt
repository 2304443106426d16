use Rattle.std.proofs.Common.{◌≡◌, ◌∙◌, ◌++◌, ◌∷◌, [], ap, map}
use Rattle.std.specs.Prelude.{option_to_list}
use Rattle.gl_text.specs.Cards.{spaced}
use Rattle.gl_card.specs.Lines.{spaced_all}
use Rattle.gl_deck.proofs.PrintingLaws.{one_more}
use Rattle.gl_base.specs.Reports.{name_at}
use Rattle.gl_flat.proofs.PrintingLaws.{device_words}
use Rattle.gl_write.proofs.device.put_device.Goals as goal

pub returns : goal.returns
returns c = record {
  ok =
      let out = c.args.out.now.items in
      let nets = c.args.nets.now in
      let d = c.args.device.now in
      let a : c.put.new.out.items ≡ out ++ d.name = c.in_ok-put.ensures.ok ∙ ap (λ t. out ++ t) (c.as_bytes.ensures.bytes ∙ c.name.ensures.name) in
      let b = one_more (λ ns. spaced_all (map (name_at nets) ns)) _ _ _ _ _ c.in_ok-put_numbers.ensures.ok c.nets.ensures.nets a in
      let e = one_more (λ m. spaced_all (option_to_list m)) _ _ _ _ _ c.in_ok-put_model.ensures.ok c.model.ensures.model b in
      let f = one_more spaced _ _ _ _ _ c.in_ok-put_tail.ensures.ok (c.as_bytes-2.ensures.bytes ∙ c.tail.ensures.tail) e in
      c.in_ok-put-2.ensures.ok ∙ ap (λ t. t ++ 10 ∷ []) f ∙ device_words out d.name (map (name_at nets) d.nets) d.model d.tail;
}
