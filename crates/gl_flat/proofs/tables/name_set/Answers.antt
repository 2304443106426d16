use Rattle.std.proofs.Common.{◌∙◌, [], ap}
use Rattle.std.proofs.lemmas.List.{take_all}
use Rattle.indexmap.specs.IndexSet.{insert_all}
use Rattle.gl_text.specs.LogicalLines.{same_text}
use Rattle.gl_deck.proofs.GlobalLaws.{keys_once}
use Rattle.gl_flat.proofs.tables.name_set.Goals as goal

pub returns : goal.returns
returns c =
    let names = c.args.names.now in
    record { names = c.loop-name.invariant ∙ ap (insert_all same_text []) (take_all c.loop-name.name-index names c.loop-name-test.false) ∙ keys_once names }
