use Rattle.std.proofs.Common.{◌≡◌, ◌∙◌, ◌++◌, ℕ, List, [], ap, sym, length, map, nat_lt}
use Rattle.gl_text.specs.LogicalLines.{FILE}
use Rattle.gl_text.specs.Flattening.{Flat, flat_text}
use Rattle.gl_flat.specs.Kept.{KeptDevice, device_lines}
use Rattle.gl_flat.specs.Lengths.{after}
use Rattle.gl_restore.specs.Backs.{flat_with}
use Rattle.gl_restore.proofs.FrameLaws.{long_by_count}
use Rattle.gl_restore.proofs.restored.is_too_long.Goals as goal

pub returns : goal.returns
returns c =
    let f = c.restored.inside.flat.now in
    let nets = map (λ n. n.now) c.restored.inside.nets.items in
    let backs = c.restored.inside.devices.items in
    let frame = c.in_ok-put_deck.ensures.ok
    ∙ ap (λ ns. c.new-frame.result.items ++ flat_text (flat_with f (map (λ n. n.now) ns) [])) c.deref.ensures.value
    ∙ ap (λ (o : List ℕ). o ++ flat_text (flat_with f nets [])) c.new-frame.ensures.items in
    let total = c.add_devices.ensures.total
    ∙ ap (λ ns. after (length c.as_slice.result.now) (device_lines (map (λ n. n.now) ns) c.deref-3.result.now)) c.deref-2.ensures.value
    ∙ ap (λ (bs : List KeptDevice). after (length c.as_slice.result.now) (device_lines nets bs)) c.deref-3.ensures.value in
    record { long = long_by_count f nets backs _ _ (ap length (c.as_slice.ensures.value ∙ frame)) total ∙ ap (λ (d : Flat). nat_lt FILE (length (flat_text d))) c.restored.view_is }
