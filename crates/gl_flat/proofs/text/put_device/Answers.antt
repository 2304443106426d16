use Rattle.std.proofs.Common.{rules, ◌≡◌, ◌∙◌, ◌++◌, ◌∷◌, [], ap, map}
use Rattle.std.specs.Prelude.{option_to_list}
use Rattle.std.specs.Option.{option_copied}
use Rattle.gl_text.specs.Cards.{spaced}
use Rattle.gl_text.specs.Flattening.{net_name, device_name}
use Rattle.gl_card.specs.Lines.{spaced_all}
use Rattle.gl_flat.proofs.PrintingLaws.{device_words}
use Rattle.gl_flat.proofs.text.put_device.Goals as goal

pub returns : goal.returns
returns c =
    let out = c.args.out.now.items in
    let d = c.args.device.now in
    let model : option_copied c.model.result ≡ d.card.model = search rules in
    let tail : c.as_bytes.result.now ≡ d.card.tail = search rules in
    let a = c.in_ok-put_places.ensures.ok ∙ ap (λ t. t ++ spaced_all (map net_name d.nets)) c.in_ok-put_device_name.ensures.ok in
    let b = c.in_ok-put_model.ensures.ok ∙ ap (λ t. t ++ spaced_all (option_to_list (option_copied c.model.result))) a ∙ ap (λ m. ((out ++ device_name d) ++ spaced_all (map net_name d.nets)) ++ spaced_all (option_to_list m)) model in
    let e = c.in_ok-put_tail.ensures.ok ∙ ap (λ t. t ++ spaced c.as_bytes.result.now) b ∙ ap (λ t. (((out ++ device_name d) ++ spaced_all (map net_name d.nets)) ++ spaced_all (option_to_list d.card.model)) ++ spaced t) tail in
    record { ok = c.in_ok-push.ensures.items ∙ ap (λ t. t ++ 10 ∷ []) e ∙ device_words out (device_name d) (map net_name d.nets) d.card.model d.card.tail }
