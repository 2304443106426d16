use Rattle.std.proofs.Common.{◌≡◌, map, length}
use Rattle.gl_fault.specs.Refusals.{first_some}
use Rattle.gl_deck.specs.Calls.{site_fault}
use Rattle.gl_deck.proofs.calls.first_fault.Given as goal

abbrev pub invariant-loop-rest : goal.invariant-loop-rest
invariant-loop-rest l = first_some (map (site_fault l.subs) l.rest) ≡ first_some (map (site_fault l.subs) l.sites)

abbrev pub decreases-loop-rest : goal.decreases-loop-rest
decreases-loop-rest l = length l.rest
