use Rattle.std.proofs.Common.{ap, ◌∙◌, map}
use Rattle.gl_text.specs.Flattening.{Flat}
use Rattle.gl_flat.specs.Kept.{KeptDevice}
use Rattle.gl_flat.proofs.FlatKept.{seen_devices, seen_names}
use Rattle.gl_flat.proofs.flat.Flat.devices.Goals as goal

pub returns : goal.returns
returns c =
    let seen = ap (λ (f : Flat). f.devices) c.self.view_is in
    record {
      devices = c.deref.ensures.value ∙ seen_devices c.self.inside.nets c.self.inside.devices.items c.args.self.now.devices c.self.invariant seen;
      names = ap (map (λ (d : KeptDevice). d.name)) c.deref.ensures.value ∙ seen_names c.self.inside.nets c.self.inside.devices.items c.args.self.now.devices seen;
    }
