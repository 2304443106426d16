use Rattle.std.proofs.Common.{map, arith}
use Rattle.std.proofs.lemmas.List.{length-map}
use Rattle.indexmap.specs.IndexMap.{get}
use Rattle.gl_text.specs.LogicalLines.{same_text}
use Rattle.gl_base.specs.TypeNames.{type_by}
use Rattle.gl_lib.specs.Sources.{type_of_flat, cards_of_cells}
use Rattle.gl_lib.proofs.KindLaws.{kinds_inserted, few_kinds}
use Rattle.gl_lib.proofs.kinds.Kinds.of.Goals as goal

pub returns : goal.returns
returns c =
    let type = type_by (get same_text c.args.words.now) in
    record { types = kinds_inserted _ _ _ (map (type_of_flat type) c.args.devices.now) (map type (cards_of_cells c.args.cells.now)) c.new-set.ensures.empty c.in_ok-add_flat_types.ensures.added c.in_ok-add_library_types.ensures.added }

pub invariant_of-result : goal.invariant_of-result
invariant_of-result c =
    let type = type_by (get same_text c.args.words.now) in
    let flats = map (type_of_flat type) c.args.devices.now in
    let others = map type (cards_of_cells c.args.cells.now) in
    let types = kinds_inserted _ _ _ flats others c.new-set.ensures.empty c.in_ok-add_flat_types.ensures.added c.in_ok-add_library_types.ensures.added in
    few_kinds _ flats others _ types (omega (arith, length-map c.args.devices.now (type_of_flat type), length-map (cards_of_cells c.args.cells.now) type, c.requires))
