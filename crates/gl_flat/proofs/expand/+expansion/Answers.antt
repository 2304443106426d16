use Rattle.gl_flat.specs.Ways.{place_of}
use Rattle.gl_flat.proofs.ExpandLaws.{devices_more}
use Rattle.gl_flat.proofs.expand.+expansion.Goals as goal

pub expand-loop-card-preserved : goal.expand-loop-card-preserved
expand-loop-card-preserved t c =
    devices_more c.args.scene.now.rails.now.keys c.args.scene.now.subs.now c.args.depth (place_of c.args.scene.now.rails.now.keys c.args.way.now) c.args.cards.now c.loop-card.card-index c.card-item.result
    c.args.out.now.items c.loop-card.out.items c.expand_card.new.out.items c.loop-card-test.true c.card-item.is c.loop-card.invariant c.in_ok-expand_card.ensures.ok
