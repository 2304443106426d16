use Rattle.std.proofs.Common.{◌≡◌, ◌<◌, ◌^◌, ◌∙◌, ap, sym, subst, ℕ, List, length, map, flat_map}
use Rattle.indexmap.specs.IndexSet.{insert_all}
use Rattle.gl_text.specs.LogicalLines.{same_text}
use Rattle.gl_text.specs.Decks.{once}
use Rattle.gl_text.specs.Flattening.{FlatDevice, bearers, flat_card, net_name}
use Rattle.gl_base.specs.BaseCircuit.{nets_of}
use Rattle.gl_deck.proofs.GlobalLaws.{keys_once}
use Rattle.gl_flat.specs.Kept.{kept}
use Rattle.gl_fault.specs.Refusals.{IsRefusal}
use Rattle.gl_flat.specs.Refusals.{fault_of}
use Rattle.gl_flat.specs.SeenNames.{Seen, net_names, seen_all}
use Rattle.gl_flat.specs.TopNames.{top_names}
use Rattle.gl_flat.proofs.ClashLaws.{none_clash, found_clash}
use Rattle.gl_flat.proofs.FlatKept.{names_are, nets_once, kept_is}
use Rattle.gl_fault.proofs.AnswerLaws.{found_on}
use Rattle.gl_flat.proofs.SeenNumbers.{names_of_all}
use Rattle.gl_flat.proofs.flattening.kept_parts.Goals as goal

pub number_devices-requires : goal.number_devices-requires
number_devices-requires c =
    let ds = c.args.devices.now in
    let names = flat_map (λ (d : FlatDevice). map net_name d.nets) ds in
    let same : nets_of (map flat_card ds) ≡ insert_all same_text (net_names c.of_scene-seen.result) names =
    ap once (names_are ds) ∙ sym (ap (λ s. insert_all same_text (net_names s) names) c.of_scene-seen.ensures.nothing ∙ keys_once names) in
    record { few = subst (λ (ks : List (List ℕ)). length ks < 2 ^ 32) same c.requires.few }

pub returns-in_err-numbered-clause-refused : goal.returns-in_err-numbered-clause-refused
returns-in_err-numbered-clause-refused c =
    let o = fault_of c.in_err-numbered.field-0.0 in
    let bs = flat_map bearers c.args.devices.now in
    found_on fault_of c.from_residual.result c.in_err-numbered.field-0.0 _ c.from_residual.ensures.1
    (found_clash o (top_names c.args.scene.now) bs c.requires.plain (subst (λ (s : Seen). IsRefusal o (seen_all s bs)) c.of_scene-seen.ensures.nothing c.in_err-numbered.ensures.refused))

pub into_names-requires : goal.into_names-requires
into_names-requires c =
    let ds = c.args.devices.now in
    let seen = names_of_all c.of_scene-seen.result c.number_devices.new.seen (top_names c.args.scene.now) ds c.of_scene-seen.ensures.nothing c.in_ok-numbered.ensures.ok in
    let same : nets_of (map flat_card ds) ≡ once (net_names c.number_devices.new.seen) = sym (nets_once (map flat_card ds)) ∙ ap once (sym (seen ∙ ap once (sym (names_are ds)))) in
    record { few = subst (λ (ks : List (List ℕ)). length ks < 2 ^ 32) same c.requires.few }

pub returns-clause-fits : goal.returns-clause-fits
returns-clause-fits c =
    let bs = flat_map bearers c.args.devices.now in
    none_clash (top_names c.args.scene.now) bs c.number_devices.new.seen c.requires.plain (ap (λ s. seen_all s bs) (sym c.of_scene-seen.ensures.nothing) ∙ c.in_ok-numbered.ensures.ok)

pub returns-clause-nets : goal.returns-clause-nets
returns-clause-nets c =
    let ds = c.args.devices.now in
    let seen = names_of_all c.of_scene-seen.result c.number_devices.new.seen (top_names c.args.scene.now) ds c.of_scene-seen.ensures.nothing c.in_ok-numbered.ensures.ok in
    c.in_ok-into_names.ensures.names ∙ ap once (seen ∙ ap once (sym (names_are ds))) ∙ nets_once (map flat_card ds)

pub returns-clause-devices : goal.returns-clause-devices
returns-clause-devices c =
    let ds = c.args.devices.now in
    let seen = names_of_all c.of_scene-seen.result c.number_devices.new.seen (top_names c.args.scene.now) ds c.of_scene-seen.ensures.nothing c.in_ok-numbered.ensures.ok in
    c.in_ok-numbered.ensures.devices ∙ ap (λ (ks : List (List ℕ)). map (kept ks) ds) (seen ∙ ap once (sym (names_are ds))) ∙ kept_is (nets_of (map flat_card ds)) ds
