use Rattle.std.proofs.Common.{subst, map, flat_map}
use Rattle.std.specs.Option.{option_copied}
use Rattle.gl_text.specs.Flattening.{bearers, clash_in, first_clash, net, top_net, top_ports, long_in, text_fault}
use Rattle.gl_flat.specs.Refusals.{Gives}
use Rattle.gl_flat.specs.Steps.{flat_by, flat_unless}
use Rattle.gl_flat.specs.TopNames.{top_names}
use Rattle.gl_flat.proofs.BoundLaws.{nets_fit}
use Rattle.gl_flat.proofs.ClashLaws.{clash_same}
use Rattle.gl_flat.proofs.StepLaws.{short, short_text, clash_decides, length_refuses}
use Rattle.gl_flat.proofs.flattening.flat_of_devices.Goals as goal

pub flat_of-requires : goal.flat_of-requires
flat_of-requires c =
    let flat = flat_by c.args.frame.now c.args.devices.now in
    record {
      few = nets_fit flat (short_text flat (short flat c.in_default.ensures.too_long).text);
      plain = c.requires.plain;
    }

pub returns-in-Some : goal.returns-in-Some
returns-in-Some c =
    let rails = c.args.frame.now.rails.now in
    let flat = flat_by c.args.frame.now c.args.devices.now in
    record { gives = length_refuses c.in-Some.fault flat (clash_in rails (top_ports (option_copied c.args.frame.now.head)) c.args.devices.now) c.in-Some.ensures.too_long }

pub returns : goal.returns
returns c =
    let ds = c.args.devices.now in
    let rails = c.args.frame.now.rails.now in
    let ports = top_ports (option_copied c.args.frame.now.head) in
    let flat = flat_by c.args.frame.now ds in
    let bs = flat_map bearers ds in
    let same = clash_same c.args.scene.now.rails.now.keys c.args.scene.now.own.now.keys rails ports bs c.requires.plain c.requires.rails c.requires.own in
    let found = first_clash (map (λ n. net (top_net n)) (top_names c.args.scene.now)) bs in
    let is_short = short flat c.in_default.ensures.too_long in
    record {
      gives = subst (λ x. Gives c.flat_of.result (flat_unless flat (text_fault flat) (long_in bs) x)) same
          (clash_decides _ c.flat_of.result flat (text_fault flat) (long_in bs) found is_short.text is_short.names c.flat_of.ensures.fits c.flat_of.ensures.flat c.flat_of.ensures.refused);
    }
