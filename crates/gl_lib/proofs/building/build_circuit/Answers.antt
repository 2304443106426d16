use Rattle.std.proofs.Common.{◌∙◌, sym, subst}
use Rattle.std.specs.Prelude.{All}
use Rattle.indexmap.specs.IndexMap.{get}
use Rattle.gl_text.specs.LogicalLines.{same_text}
use Rattle.gl_base.specs.TypeNames.{type_by}
use Rattle.gl_lib.specs.Numbered.{IsAmongTypes}
use Rattle.gl_lib.specs.Tables.{source_of}
use Rattle.gl_lib.proofs.FlatLaws.{flat_among}
use Rattle.gl_lib.proofs.BuildLaws.{only_memory, flat_by_tables, circuit_is, circuit_few, circuit_unrefused}
use Rattle.gl_lib.proofs.building.build_circuit.Goals as goal

pub flat_devices-requires : goal.flat_devices-requires
flat_devices-requires c =
    let p = c.args.parts.now in
    let t = c.args.tables.now in
    subst (All (IsAmongTypes (type_by (get same_text t.words)) t.kinds)) (sym c.devices.ensures.devices)
    (flat_by_tables (source_of p) (get same_text t.words) t.kinds c.requires.tables.words_are c.requires.tables.kinds_are _ (flat_among p.flat.now p.library.now _))

pub build-requires : goal.build-requires
build-requires c =
    let p = c.args.parts.now in
    let t = c.args.tables.now in
    let given = circuit_is p.flat.now p.library.now c.args.keep.now (get same_text t.words) t.kinds c.requires.tables.words_are c.requires.tables.kinds_are
    c.nets-nets.result.now t.rails c.items.result.now c.args.shapes.items c.devices.result.now c.in_ok-devices.devices.items c.count.result c.in_ok-rails.rails.items c.args.pinned.items
    c.nets-nets.ensures.nets c.items.ensures.items c.requires.tables.rails_are c.requires.shapes c.devices.ensures.devices
    c.in_ok-devices.ensures.devices c.count.ensures.count c.in_ok-rails.ensures.nets c.requires.pinned in
    record { size = circuit_few p.flat.now p.library.now c.requires.sound c.args.keep.now _ given }

pub returns-in-Ok : goal.returns-in-Ok
returns-in-Ok c =
    let p = c.args.parts.now in
    let t = c.args.tables.now in
    let given = circuit_is p.flat.now p.library.now c.args.keep.now (get same_text t.words) t.kinds c.requires.tables.words_are c.requires.tables.kinds_are
    c.nets-nets.result.now t.rails c.items.result.now c.args.shapes.items c.devices.result.now c.in_ok-devices.devices.items c.count.result c.in_ok-rails.rails.items c.args.pinned.items
    c.nets-nets.ensures.nets c.items.ensures.items c.requires.tables.rails_are c.requires.shapes c.devices.ensures.devices
    c.in_ok-devices.ensures.devices c.count.ensures.count c.in_ok-rails.ensures.nets c.requires.pinned in
    record { circuit = c.in-Ok.ensures.answer.0 ∙ given }

pub want_of_memory-requires : goal.want_of_memory-requires
want_of_memory-requires c =
    let p = c.args.parts.now in
    let t = c.args.tables.now in
    let given = circuit_is p.flat.now p.library.now c.args.keep.now (get same_text t.words) t.kinds c.requires.tables.words_are c.requires.tables.kinds_are
    c.nets-nets.result.now t.rails c.items.result.now c.args.shapes.items c.devices.result.now c.in_ok-devices.devices.items c.count.result c.in_ok-rails.rails.items c.args.pinned.items
    c.nets-nets.ensures.nets c.items.ensures.items c.requires.tables.rails_are c.requires.shapes c.devices.ensures.devices
    c.in_ok-devices.ensures.devices c.count.ensures.count c.in_ok-rails.ensures.nets c.requires.pinned in
    only_memory _ _ (circuit_unrefused p.flat.now p.library.now c.requires.sound c.args.keep.now _ given) c.in-Err.ensures.answer
