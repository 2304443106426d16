use Rattle.std.proofs.Common.{ap}
use Rattle.gl_text.specs.Flattening.{Flat}
use Rattle.gl_flat.proofs.FlatKept.{seen_nets}
use Rattle.gl_flat.proofs.flat.Flat.nets.Goals as goal

pub returns : goal.returns
returns c = record { nets = seen_nets c.self.inside.nets c.self.inside.devices.items c.args.self.now.devices c.self.invariant (ap (λ (f : Flat). f.devices) c.self.view_is) }
