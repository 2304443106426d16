use Rattle.std.proofs.Common.{◌≡◌, List}
use Rattle.std.specs.List.{IsDistinct}
use Rattle.gl_text.specs.LogicalLines.{same_text}
use Rattle.gl_text.specs.Decks.{Sub}
use Rattle.gl_deck.specs.Bodies.{names_of}
use Rattle.gl_size.specs.Chains.{chains_of}
use Rattle.gl_size.specs.Tallies.{tallies_of}
use Rattle.gl_size.proofs.chains.deep.Given as goal

abbrev pub invariant-loop-depth : goal.invariant-loop-depth
invariant-loop-depth l = (subs : List Sub) → IsDistinct same_text (names_of subs) → l.tallies ≡ tallies_of subs → l.marks.items ≡ chains_of subs l.depth
