use Rattle.std.proofs.Common.{◌≡◌, drop, map}
use Rattle.indexmap.specs.IndexMap.{get}
use Rattle.indexmap.specs.IndexSet.{insert_all}
use Rattle.gl_text.specs.LogicalLines.{same_text}
use Rattle.gl_base.specs.TypeNames.{same_type, type_by}
use Rattle.gl_lib.proofs.kinds.add_types.Given as goal

abbrev pub invariant-loop-card : goal.invariant-loop-card
invariant-loop-card l = insert_all same_type l.set.keys (map (type_by (get same_text l.words)) (map (λ c. c.now) (drop l.card-index l.cards))) ≡ insert_all same_type l.initial.set.keys (map (type_by (get same_text l.words)) (map (λ c. c.now) l.cards))
