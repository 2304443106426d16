use Rattle.std.proofs.Common.{rules, ◌≡◌, ◌∙◌, ◌∷◌, [], ap, refl, map}
use Rattle.std.specs.Prelude.{option_to_list}
use Rattle.std.specs.Option.{option_copied}
use Rattle.gl_text.specs.Cards.{spaced}
use Rattle.gl_text.specs.Flattening.{net_name, device_name}
use Rattle.gl_card.specs.Lines.{spaced_all}
use Rattle.gl_flat.specs.Lengths.{after}
use Rattle.gl_flat.proofs.LengthLaws.{next}
use Rattle.gl_flat.proofs.PrintingLaws.{device_words}
use Rattle.gl_flat.proofs.length.add_device.Goals as goal

pub returns : goal.returns
returns c =
    let t = c.args.total in
    let d = c.args.device.now in
    let model : option_copied c.model.result ≡ d.card.model = search rules in
    let tail : c.as_bytes.result.now ≡ d.card.tail = search rules in
    let a = next t _ _ _ _ _ c.add_own-named.ensures.total c.add_places-placed.ensures.total refl in
    let b = next t _ _ _ _ _ a c.add_option-modelled.ensures.total (ap (λ m. spaced_all (option_to_list m)) model) in
    let e = next t _ _ _ _ _ b c.add_tail-tailed.ensures.total (ap spaced tail) in
    let f = next t _ _ (10 ∷ []) _ _ e c.add.ensures.total refl in
    record { total = f ∙ ap (after t) (device_words [] (device_name d) (map net_name d.nets) d.card.model d.card.tail) }
