use Rattle.std.proofs.Common.{◌≡◌, take}
use Rattle.gl_card.specs.Lines.{spaced_all}
use Rattle.gl_flat.specs.Lengths.{after}
use Rattle.gl_flat.proofs.length.add_words.Given as goal

abbrev pub invariant-loop-word : goal.invariant-loop-word
invariant-loop-word l = l.sum ≡ after l.total (spaced_all (take l.word-index l.words))
