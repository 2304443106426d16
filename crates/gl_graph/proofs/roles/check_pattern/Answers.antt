use Rattle.std.proofs.Common.{◌≡◌, length, eqb, false, None, arith}
use Rattle.gl_graph.specs.declared.fault.BuildFault.TheVariants.{NoDevice}
use Rattle.gl_graph.specs.Built.{pattern_of}
use Rattle.gl_graph.specs.Faults.{pattern_fault}
use Rattle.gl_fault.proofs.FirstLaws.{when_none}
use Rattle.gl_graph.proofs.PatternLaws.{parts_none, pattern_sound, pattern_fits}
use Rattle.gl_graph.proofs.roles.check_pattern.Goals as goal

pub returns-clause-built : goal.returns-clause-built
returns-clause-built c =
    let p = pattern_of c.args.devices.now c.args.roles.now c.args.ports.now in
    let filled : eqb (length c.args.devices.now) 0 ≡ false = when_none (eqb (length c.args.devices.now) 0) NoDevice c.in_ok-check_some.ensures.first in
    let sound : pattern_fault c.args.shapes.now c.args.rails p ≡ None = parts_none c.args.shapes.now c.args.rails p c.in_ok-check_devices.ensures.first c.in_ok-check_roles.ensures.answer.1 c.in_ok-check_ports.ensures.answer.1 filled in
    pattern_sound c.args.shapes.now c.args.rails p sound (omega arith)

pub returns-clause-fits : goal.returns-clause-fits
returns-clause-fits c =
    let p = pattern_of c.args.devices.now c.args.roles.now c.args.ports.now in
    let filled : eqb (length c.args.devices.now) 0 ≡ false = when_none (eqb (length c.args.devices.now) 0) NoDevice c.in_ok-check_some.ensures.first in
    let sound : pattern_fault c.args.shapes.now c.args.rails p ≡ None = parts_none c.args.shapes.now c.args.rails p c.in_ok-check_devices.ensures.first c.in_ok-check_roles.ensures.answer.1 c.in_ok-check_ports.ensures.answer.1 filled in
    pattern_fits c.args.shapes.now c.args.rails p sound
