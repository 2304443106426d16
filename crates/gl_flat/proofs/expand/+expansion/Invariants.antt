use Rattle.std.proofs.Common.{◌≡◌, ◌++◌, ◌+◌, ◌*◌, take}
use Rattle.gl_text.specs.Flattening.{flat_devices}
use Rattle.gl_deck.specs.Bodies.{bodies_value}
use Rattle.gl_flat.specs.Ways.{place_of}
use Rattle.gl_flat.proofs.expand.+expansion.Given as goal

abbrev pub decreases-expand : goal.decreases-expand
decreases-expand l = 3 * l.depth + 2

abbrev pub decreases-expand_card : goal.decreases-expand_card
decreases-expand_card l = 3 * l.depth + 1

abbrev pub decreases-expand_call : goal.decreases-expand_call
decreases-expand_call l = 3 * l.depth

abbrev pub invariant-expand-loop-card : goal.invariant-expand-loop-card
invariant-expand-loop-card l = l.out.items ≡ l.fn.out.items ++ flat_devices l.scene.rails.now.keys l.scene.subs.now l.depth (place_of l.scene.rails.now.keys l.way) (bodies_value (take l.card-index l.cards))
