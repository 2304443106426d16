use Rattle.std.proofs.Common.{◌≡◌, take, map}
use Rattle.gl_base.specs.Rounds.{cards_of}
use Rattle.gl_found.specs.Founds.{part_at}
use Rattle.gl_write.specs.Variants.{carried_part}
use Rattle.gl_write.proofs.variants.carried_all.Given as goal

abbrev pub invariant-loop-spot : goal.invariant-loop-spot
invariant-loop-spot l = l.cards.items ≡ map (carried_part (cards_of l.flat) l.numbers) (map (part_at l.found.origins) (take l.spot-index l.spots))
