use Rattle.std.proofs.Common.{◌∙◌, ap, sym, subst}
use Rattle.gl_text.specs.Flattening.{DEPTH, flat_devices, top_place}
use Rattle.gl_flat.specs.SeenNames.{PlainDiffer}
use Rattle.gl_flat.proofs.PlainNames.{plain_differ}
use Rattle.gl_flat.proofs.cell.clash_of_cards.Goals as goal

pub clash_among-requires : goal.clash_among-requires
clash_among-requires c =
    let s = c.args.scene.now in
    record {
      plain = subst PlainDiffer (sym (c.deref.ensures.value ∙ c.in_ok-devices.ensures.devices ∙ ap (flat_devices s.rails.now.keys s.subs.now DEPTH top_place) c.cards.ensures.cards))
          (plain_differ s.rails.now.keys s.subs.now DEPTH c.args.cell.now.cards c.requires.names);
    }
