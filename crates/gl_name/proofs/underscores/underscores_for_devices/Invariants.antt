use Rattle.std.proofs.Common.{◌≡◌, drop, map}
use Rattle.std.specs.Prelude.{max}
use Rattle.gl_name.specs.Needs.{need_of_names}
use Rattle.gl_flat.specs.Kept.{KeptDevice}
use Rattle.gl_name.proofs.underscores.underscores_for_devices.Given as goal

abbrev pub invariant-loop-device : goal.invariant-loop-device
invariant-loop-device l = max l.count (need_of_names (map (λ (d : KeptDevice). d.name) (drop l.device-index l.devices))) ≡ max l.most (need_of_names (map (λ (d : KeptDevice). d.name) l.devices))
