use Rattle.std.proofs.Common.{◌≡◌, ◌∙◌, List, ap, subst, map}
use Rattle.std.specs.Prelude.{reverse}
use Rattle.gl_text.specs.Decks.{Deck}
use Rattle.gl_text.specs.Flattening.{device_name}
use Rattle.gl_base.specs.BaseCircuit.{nets_of}
use Rattle.gl_base.specs.Rounds.{cards_of}
use Rattle.gl_lifting.specs.NameMaps.{under}
use Rattle.gl_found.specs.Founds.{Found, all_found}
use Rattle.gl_named.specs.Firsts.{at_number}
use Rattle.gl_named.specs.Kept.{Keeps}
use Rattle.gl_named.specs.Walks.{plan_of, rows_of}
use Rattle.gl_named.proofs.WalkLaws.{walked_map, renamed_same}
use Rattle.gl_named.proofs.names.Names.of.Goals as goal

pub returns-clause-map : goal.returns-clause-map
returns-clause-map c = λ r.
    let stem = c.args.stem.now in
    let flat = c.args.flat.now in
    let library = c.args.library.now in
    let lifted = c.args.lift.now in
    let names = c.in_ok-names.names in
    let all = all_found lifted.rounds in
    let rows = rows_of stem flat.rails library.deck.subs (reverse all) in
    let found : c.deref-2.result.now ≡ reverse all = c.deref-2.ensures.value ∙ c.reverse.ensures.items ∙ ap reverse c.in_ok-found.ensures.found in
    let subs = c.as_slice.ensures.subs ∙ c.subs.ensures.subs ∙ ap (λ (d : Deck). d.subs) c.deck.ensures.deck in
    let plans : c.deref.result.now ≡ map (plan_of flat.rails) library.deck.subs = c.deref.ensures.value ∙ c.in_ok-plans.ensures.plans ∙ (λ i. map (plan_of (c.rails.ensures.rails i)) (subs i)) in
    let keeps = subst (λ (fs : List Found). Keeps names (rows_of stem flat.rails library.deck.subs fs)) found (c.in_ok-names.ensures.renames flat.rails library.deck.subs plans) in
    let devices = renamed_same (at_number names.devices.items) (under rows.devices) keeps.devices 0 (map device_name flat.devices) in
    let nets = renamed_same (at_number names.nets.items) (under rows.nets) keeps.nets 0 (nets_of (cards_of flat)) in
    (λ i. record { devices = devices i; nets = nets i }) ∙ walked_map stem flat library lifted r (c.composites_are_found.ensures.composites flat library lifted r)
