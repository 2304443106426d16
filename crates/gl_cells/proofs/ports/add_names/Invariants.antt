use Rattle.std.proofs.Common.{◌≡◌, take}
use Rattle.gl_text.specs.LogicalLines.{same_text}
use Rattle.indexmap.specs.IndexSet.{insert_all}
use Rattle.gl_cells.proofs.ports.add_names.Given as goal

abbrev pub invariant-loop-name : goal.invariant-loop-name
invariant-loop-name l = l.known.keys ≡ insert_all same_text l.initial.known.keys (take l.name-index l.names)
