use Rattle.std.proofs.Common.{◌≡◌, length}
use Rattle.gl_deck.specs.Bodies.{bodies_value}
use Rattle.gl_cells.specs.Outlines.{marked_callee}
use Rattle.gl_cells.proofs.skips.first_marked.Given as goal

abbrev pub invariant-loop-rest : goal.invariant-loop-rest
invariant-loop-rest l = marked_callee l.marks l.subs (bodies_value l.rest) ≡ marked_callee l.marks l.subs (bodies_value l.cards)

abbrev pub decreases-loop-rest : goal.decreases-loop-rest
decreases-loop-rest l = length l.rest
