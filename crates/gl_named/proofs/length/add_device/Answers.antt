use Rattle.std.proofs.Common.{◌≡◌, ◌∙◌, ◌∷◌, [], ap, refl, map}
use Rattle.std.specs.Prelude.{option_to_list}
use Rattle.gl_text.specs.Cards.{spaced}
use Rattle.gl_base.specs.Reports.{name_at}
use Rattle.gl_card.specs.Lines.{spaced_all}
use Rattle.gl_flat.specs.Lengths.{after}
use Rattle.gl_flat.proofs.LengthLaws.{next}
use Rattle.gl_flat.proofs.PrintingLaws.{device_words}
use Rattle.gl_named.proofs.length.add_device.Goals as goal

pub returns : goal.returns
returns c =
    let t = c.args.total in
    let nets = c.args.nets.now in
    let name = c.args.name.now in
    let d = c.args.device.now in
    let named : c.add-named.result ≡ after t name = c.add-named.ensures.total ∙ ap (after t) c.as_bytes.ensures.bytes in
    let a = next t _ _ _ _ _ named c.add_nodes-placed.ensures.total (ap (λ ns. spaced_all (map (name_at nets) ns)) c.nets.ensures.nets) in
    let b = next t _ _ _ _ _ a c.add_model-modelled.ensures.total (ap (λ m. spaced_all (option_to_list m)) c.model.ensures.model) in
    let e = next t _ _ _ _ _ b c.add_tail-tailed.ensures.total (ap spaced (c.as_bytes-2.ensures.bytes ∙ c.tail.ensures.tail)) in
    let f = next t _ _ (10 ∷ []) _ _ e c.add.ensures.total refl in
    record { total = f ∙ ap (after t) (device_words [] name (map (name_at nets) d.nets) d.model d.tail) }
