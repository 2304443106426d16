use Rattle.std.proofs.Common.{◌≡◌, take, [], flat_map}
use Rattle.indexmap.specs.IndexSet.{insert_all}
use Rattle.gl_text.specs.LogicalLines.{same_text}
use Rattle.gl_deck.specs.Bodies.{bodies_value}
use Rattle.gl_base.specs.Libraries.{nodes_of}
use Rattle.gl_probe.proofs.nets.net_set.Given as goal

abbrev pub invariant-loop-card : goal.invariant-loop-card
invariant-loop-card l = l.nets.keys ≡ insert_all same_text [] (flat_map nodes_of (bodies_value (take l.card-index l.cards)))
