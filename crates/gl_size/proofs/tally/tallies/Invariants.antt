use Rattle.std.proofs.Common.{◌≡◌, ◌++◌, length, map}
use Rattle.gl_text.specs.Decks.{Sub}
use Rattle.gl_size.specs.Tallies.{tally_of, tallies_of}
use Rattle.gl_size.proofs.tally.tallies.Given as goal

abbrev pub invariant-loop-rest : goal.invariant-loop-rest
invariant-loop-rest l = l.tallies.items ++ map (λ (s : Sub). tally_of l.subs s.cards) l.rest ≡ tallies_of l.subs

abbrev pub decreases-loop-rest : goal.decreases-loop-rest
decreases-loop-rest l = length l.rest
