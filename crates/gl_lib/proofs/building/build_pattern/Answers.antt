use Rattle.std.proofs.Common.{◌∙◌, ◌<◌, ap, List, length, flat_map, subst, sym, arith}
use Rattle.std.specs.Prelude.{All}
use Rattle.gl_text.specs.Cards.{Head}
use Rattle.gl_text.specs.Decks.{Body, once}
use Rattle.gl_text.specs.Flattening.{top_ports}
use Rattle.gl_deck.specs.Bodies.{bodies_value}
use Rattle.gl_base.specs.Libraries.{nodes_of}
use Rattle.gl_lib.specs.Numbered.{IsNumbered}
use Rattle.gl_lib.specs.Tables.{run_in}
use Rattle.gl_lib.proofs.SoundLaws.{cell_numbered, nodes_few, ports_few, shapes_small}
use Rattle.gl_lib.proofs.BuildLaws.{only_memory, ports_numbered, pattern_small, pattern_unrefused, pattern_is}
use Rattle.gl_lib.proofs.building.build_pattern.Goals as goal

pub net_table-requires : goal.net_table-requires
net_table-requires c =
    let p = c.args.parts.now in
    let same = ap (λ (bs : List Body). length (flat_map nodes_of bs)) c.cards-cards.ensures.cards in
    record { few = omega (arith, same, nodes_few p.flat.now p.library.now c.requires.sound (top_ports p.flat.now.top) c.args.cell.now c.requires.inside c.requires.whole) }

pub name_table-requires : goal.name_table-requires
name_table-requires c =
    let p = c.args.parts.now in
    let same = ap length (c.ports-port_names.ensures.ports ∙ ap (λ (h : Head). h.ports) c.head.ensures.head) in
    omega (arith, same, ports_few p.flat.now p.library.now c.requires.sound (top_ports p.flat.now.top) c.args.cell.now c.requires.inside c.requires.whole)

pub devices_of_cards-requires-clause-numbered : goal.devices_of_cards-requires-clause-numbered
devices_of_cards-requires-clause-numbered c =
    let p = c.args.parts.now in
    let cell = c.args.cell.now in
    let nets = c.in_ok-nets.ensures.nets ∙ ap (λ (cards : List Body). once (flat_map nodes_of cards)) c.cards-cards.ensures.cards in
    subst (All (IsNumbered (run_in p) c.in_ok-nets.nets)) (sym c.cards-cards.ensures.cards)
    (subst (λ ns. All (IsNumbered (run_in p) ns) cell.cards) (sym nets)
    (cell_numbered p.flat.now p.library.now c.requires.sound (top_ports p.flat.now.top) cell c.requires.inside c.requires.whole))

pub numbers_of-requires : goal.numbers_of-requires
numbers_of-requires c =
    let p = c.args.parts.now in
    let nets = c.in_ok-nets.ensures.nets ∙ ap (λ (cards : List Body). once (flat_map nodes_of cards)) c.cards-cards.ensures.cards in
    ports_numbered p.flat.now p.library.now c.requires.sound c.args.cell.now c.requires.inside c.requires.whole c.in_ok-nets.nets c.ports-port_names.result.now nets (c.ports-port_names.ensures.ports ∙ ap (λ (h : Head). h.ports) c.head.ensures.head)

pub build-requires-clause-size : goal.build-requires-clause-size
build-requires-clause-size c =
    let p = c.args.parts.now in
    let cell = c.args.cell.now in
    let given = pattern_is (run_in p) cell c.in_ok-nets.nets c.in_ok-ports.ports c.ports-port_names.result.now c.items.result.now c.args.tables.now.rails (bodies_value c.cards-cards.result.now) c.in_ok-devices.devices.items c.in_ok-roles.roles.items c.in_ok-port_nets.port_nets.items
    c.cards-cards.ensures.cards c.in_ok-nets.ensures.nets c.in_ok-ports.ensures.names (c.ports-port_names.ensures.ports ∙ ap (λ (h : Head). h.ports) c.head.ensures.head) c.requires.whole.searched.ports_differ c.items.ensures.items c.requires.tables.rails_are c.in_ok-devices.ensures.devices c.in_ok-roles.ensures.roles c.in_ok-port_nets.ensures.numbers in
    pattern_small p.flat.now p.library.now c.requires.sound cell c.requires.inside c.requires.whole c.args.shapes.now c.count-rails.result c.requires.shapes (c.count-rails.ensures.count ∙ ap length c.requires.tables.rails_are) _ given

pub build-requires-clause-places : goal.build-requires-clause-places
build-requires-clause-places c =
    let p = c.args.parts.now in
    subst (All (λ classes. length classes < 4294967296)) (sym c.requires.shapes) (shapes_small p.flat.now p.library.now c.requires.sound (top_ports p.flat.now.top))

pub returns-in-Ok : goal.returns-in-Ok
returns-in-Ok c =
    let p = c.args.parts.now in
    let cell = c.args.cell.now in
    let given = pattern_is (run_in p) cell c.in_ok-nets.nets c.in_ok-ports.ports c.ports-port_names.result.now c.items.result.now c.args.tables.now.rails (bodies_value c.cards-cards.result.now) c.in_ok-devices.devices.items c.in_ok-roles.roles.items c.in_ok-port_nets.port_nets.items
    c.cards-cards.ensures.cards c.in_ok-nets.ensures.nets c.in_ok-ports.ensures.names (c.ports-port_names.ensures.ports ∙ ap (λ (h : Head). h.ports) c.head.ensures.head) c.requires.whole.searched.ports_differ c.items.ensures.items c.requires.tables.rails_are c.in_ok-devices.ensures.devices c.in_ok-roles.ensures.roles c.in_ok-port_nets.ensures.numbers in
    record { pattern = c.in-Ok.ensures.answer.0 ∙ given }

pub want_of_memory-requires : goal.want_of_memory-requires
want_of_memory-requires c =
    let p = c.args.parts.now in
    let cell = c.args.cell.now in
    let given = pattern_is (run_in p) cell c.in_ok-nets.nets c.in_ok-ports.ports c.ports-port_names.result.now c.items.result.now c.args.tables.now.rails (bodies_value c.cards-cards.result.now) c.in_ok-devices.devices.items c.in_ok-roles.roles.items c.in_ok-port_nets.port_nets.items
    c.cards-cards.ensures.cards c.in_ok-nets.ensures.nets c.in_ok-ports.ensures.names (c.ports-port_names.ensures.ports ∙ ap (λ (h : Head). h.ports) c.head.ensures.head) c.requires.whole.searched.ports_differ c.items.ensures.items c.requires.tables.rails_are c.in_ok-devices.ensures.devices c.in_ok-roles.ensures.roles c.in_ok-port_nets.ensures.numbers in
    only_memory _ _
    (pattern_unrefused p.flat.now p.library.now c.requires.sound cell c.requires.inside c.requires.whole c.args.shapes.now c.count-rails.result c.requires.shapes (c.count-rails.ensures.count ∙ ap length c.requires.tables.rails_are) _ given)
    c.in-Err.ensures.answer
