use Rattle.std.proofs.Common.{take, map}
use Rattle.std.specs.List.{AllZip}
use Rattle.gl_match.specs.Listing.{Listed}
use Rattle.gl_round.proofs.lists.lists_among.Given as goal

abbrev pub invariant-loop-pattern : goal.invariant-loop-pattern
invariant-loop-pattern l = AllZip (Listed l.circuit) (map (λ p. p.now) (take l.pattern-index l.patterns)) l.lists.items
