use Rattle.std.proofs.Common.{◌∙◌, ap}
use Rattle.indexmap.specs.IndexSet.{insert_all}
use Rattle.gl_text.specs.LogicalLines.{same_text}
use Rattle.gl_deck.specs.Bodies.{body_value}
use Rattle.gl_base.specs.Libraries.{nodes_of}
use Rattle.gl_lib.proofs.InsertLaws.{nodes_step, nodes_done}
use Rattle.gl_named.proofs.plan.net_set.Goals as goal

pub returns : goal.returns
returns c = record { nets = nodes_done body_value nodes_of _ _ _ c.loop-card-test.false c.loop-card.invariant }

pub loop-card-preserved : goal.loop-card-preserved
loop-card-preserved c =
    nodes_step body_value nodes_of _ _ _ _ c.card-item.result _ c.loop-card-test.true c.card-item.is
    (c.in_ok-add_names.ensures.added ∙ ap (insert_all same_text c.loop-card.set.keys) c.nodes_on.ensures.nodes)
    c.loop-card.invariant
