use Rattle.std.proofs.Common.{◌≡◌}
use Rattle.gl_text.specs.LogicalLines.{same_text}
use Rattle.indexmap.specs.IndexSet.{insert_all}
use Rattle.gl_deck.proofs.globals.add_names.Given as goal

abbrev pub invariant-loop-name : goal.invariant-loop-name
invariant-loop-name l = insert_all same_text l.known.keys l.name-iterator.rest.items ≡ insert_all same_text l.initial.known.keys l.initial.name-iterator.rest.items
