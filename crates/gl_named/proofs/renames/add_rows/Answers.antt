use Rattle.std.proofs.Common.{◌≡◌, ◌∙◌, ℕ, List, Option, ap, subst, map}
use Rattle.std.specs.Prelude.{filter_map, zip}
use Rattle.gl_lifting.specs.NameMaps.{under}
use Rattle.gl_deck.specs.Bodies.{bodies_value}
use Rattle.gl_named.specs.Firsts.{at_number, Adds}
use Rattle.gl_named.specs.Walks.{Plan, way_row, device_row, net_row, cards_from, cell_pairs}
use Rattle.gl_named.proofs.FirstLaws.{holds_more, rows_agree}
use Rattle.gl_named.proofs.renames.add_rows.Goals as goal

pub returns : goal.returns
returns c =
    let plan = c.args.plan.now in
    let found = c.args.found.now in
    let way = c.args.way.now in
    let old = c.args.names.now in
    let cards : bodies_value c.cards-cards.result.now ≡ plan.cell.cards = c.cards-cards.ensures.cards ∙ ap (λ (p : Plan). p.cell.cards) c.plan.view_is in
    let inner : c.deref-2.result.now ≡ plan.inner = c.deref-2.ensures.value ∙ ap (λ (p : Plan). p.inner) c.plan.view_is in
    let image = under (cell_pairs plan.nets found.circuit (zip plan.cell.cards found.instance.least)) in
    let nets : map (net_row way (at_number c.deref.result.now)) c.deref-2.result.now ≡ map (net_row way image) plan.inner =
    ap (λ (t : List (Option ℕ)). map (net_row way (at_number t)) c.deref-2.result.now) c.deref.ensures.value
    ∙ ap (map (net_row way (at_number c.in_ok-images.images.items))) inner
    ∙ rows_agree way (at_number c.in_ok-images.images.items) image c.in_ok-images.ensures.images plan.inner in
    record {
      added = λ rows keeps. record {
        ways = holds_more old.ways.items c.add_ways.new.ways.items rows.ways _ keeps.ways (subst (λ cs. Adds old.ways.items c.add_ways.new.ways.items (filter_map (way_row way) (cards_from found cs))) cards c.in_ok-add_ways.ensures.added);
        devices = holds_more old.devices.items c.add_devices.new.devices.items rows.devices _ keeps.devices (subst (λ cs. Adds old.devices.items c.add_devices.new.devices.items (filter_map (device_row way) (cards_from found cs))) cards c.in_ok-add_devices.ensures.added);
        nets = holds_more old.nets.items c.add_nets.new.names.items rows.nets _ keeps.nets (subst (Adds old.nets.items c.add_nets.new.names.items) nets c.in_ok-add_nets.ensures.added);
      };
    }
