use Rattle.std.proofs.Common.{◌∙◌, ap, nat_lt}
use Rattle.gl_text.specs.LogicalLines.{FILE}
use Rattle.gl_flat.specs.Kept.{device_lines}
use Rattle.gl_flat.specs.Lengths.{after}
use Rattle.gl_lifting.specs.Counting.{new_length}
use Rattle.gl_lifting.specs.Renaming.{new_names}
use Rattle.gl_named.specs.Firsts.{at_number}
use Rattle.gl_named.specs.Named.{Named, devices_from}
use Rattle.gl_named.specs.Walks.{renamed_from}
use Rattle.gl_named.proofs.CountLaws.{long_by_count}
use Rattle.gl_named.proofs.names.Names.has_long_flat.Goals as goal

pub returns : goal.returns
returns c =
    let names = c.self.inside in
    let frame = c.in_ok-frame.frame in
    let olds = c.items.result.now in
    let kept = c.devices.result.now in
    let total = c.add_devices.ensures.total
    ∙ (λ i. after frame (device_lines (new_names (renamed_from (at_number (c.deref.ensures.value i)) 0 olds)) (devices_from (at_number (c.deref-2.ensures.value i)) 0 kept))) in
    record {
      long = long_by_count (at_number names.devices.items) (at_number names.nets.items) names.flat.now olds kept frame _ c.in_ok-frame.ensures.length (c.items.ensures.items ∙ c.nets.ensures.nets) c.devices.ensures.devices total
          ∙ ap (λ (n : Named). nat_lt FILE (new_length n.map n.flat)) c.self.view_is;
    }
