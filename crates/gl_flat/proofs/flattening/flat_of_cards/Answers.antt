use Rattle.std.proofs.Common.{◌∙◌, sym, subst}
use Rattle.gl_text.specs.Flattening.{DEPTH}
use Rattle.gl_deck.specs.Bodies.{bodies_value}
use Rattle.gl_flat.specs.SeenNames.{PlainDiffer}
use Rattle.gl_flat.proofs.PlainNames.{plain_differ}
use Rattle.gl_flat.proofs.flattening.flat_of_cards.Goals as goal

pub flat_of_devices-requires-clause-plain : goal.flat_of_devices-requires-clause-plain
flat_of_devices-requires-clause-plain c =
    let s = c.args.scene.now in
    subst PlainDiffer (sym (c.deref.ensures.value ∙ c.in_ok-devices.ensures.devices)) (plain_differ s.rails.now.keys s.subs.now DEPTH (bodies_value c.args.cards.now) c.requires.names)
