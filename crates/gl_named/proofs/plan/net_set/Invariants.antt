use Rattle.std.proofs.Common.{◌≡◌, drop, [], flat_map}
use Rattle.indexmap.specs.IndexSet.{insert_all}
use Rattle.gl_text.specs.LogicalLines.{same_text}
use Rattle.gl_deck.specs.Bodies.{bodies_value}
use Rattle.gl_base.specs.Libraries.{nodes_of}
use Rattle.gl_named.proofs.plan.net_set.Given as goal

abbrev pub invariant-loop-card : goal.invariant-loop-card
invariant-loop-card l = insert_all same_text l.set.keys (flat_map nodes_of (bodies_value (drop l.card-index l.cards))) ≡ insert_all same_text [] (flat_map nodes_of (bodies_value l.cards))
