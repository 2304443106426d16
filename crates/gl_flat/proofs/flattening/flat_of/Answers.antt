use Rattle.std.proofs.Common.{◌∙◌, map}
use Rattle.gl_text.specs.Flattening.{flat_card}
use Rattle.gl_flat.proofs.FlatKept.{are_kept, made_devices}
use Rattle.gl_flat.proofs.flattening.flat_of.Goals as goal

pub invariant_of-result-2 : goal.invariant_of-result-2
invariant_of-result-2 c = are_kept (map flat_card c.args.devices.now) _ _ (c.nets.view_is ∙ c.in_ok-nets.ensures.nets) c.in_ok-nets.ensures.devices

pub returns-clause-flat : goal.returns-clause-flat
returns-clause-flat c =
    let title = c.in_ok-from_slice.ensures.items ∙ c.title.ensures.title in
    let models = c.in_ok-model_copies.ensures.copies ∙ c.models.ensures.models in
    let devices = made_devices (map flat_card c.args.devices.now) _ _ (c.nets.view_is ∙ c.in_ok-nets.ensures.nets) c.in_ok-nets.ensures.devices in
    let passed = c.in_ok-text_copies.ensures.copies ∙ c.passed.ensures.passed in
    λ i. record { title = title i; rails = c.in_ok-name_copies.ensures.copies i; models = models i; top = c.in_ok-top_copy.ensures.copy i; devices = devices i; passed = passed i }
