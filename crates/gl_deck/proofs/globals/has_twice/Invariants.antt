use Rattle.std.proofs.Common.{◌≡◌, length}
use Rattle.gl_text.specs.Decks.{has_twice}
use Rattle.gl_deck.proofs.TwiceLaws.{repeats}
use Rattle.gl_deck.proofs.globals.has_twice.Given as goal

abbrev pub invariant-loop-left : goal.invariant-loop-left
invariant-loop-left l = repeats l.known.keys l.left ≡ has_twice l.names

abbrev pub decreases-loop-left : goal.decreases-loop-left
decreases-loop-left l = length l.left
