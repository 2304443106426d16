use Rattle.std.proofs.Common.{◌≡◌, drop}
use Rattle.gl_graph.specs.Faults.{first_in, device_fault}
use Rattle.gl_graph.proofs.checks.check_devices.Given as goal

abbrev pub invariant-loop-dev : goal.invariant-loop-dev
invariant-loop-dev l = first_in (device_fault l.shapes l.nets) l.dev (drop l.dev l.devices) ≡ first_in (device_fault l.shapes l.nets) 0 l.devices
