use Rattle.std.proofs.Common.{◌≡◌, List}
use Rattle.gl_text.specs.Decks.{Sub}
use Rattle.gl_size.specs.Counts.{counts_of}
use Rattle.gl_size.specs.Tallies.{tallies_of}
use Rattle.gl_size.proofs.rounds.counts.Given as goal

abbrev pub invariant-loop-depth : goal.invariant-loop-depth
invariant-loop-depth l = (subs : List Sub) → l.tallies ≡ tallies_of subs → l.counts.items ≡ counts_of l.counted subs l.depth
