use Rattle.std.proofs.Common.{◌≡◌, ◌++◌, take}
use Rattle.gl_card.specs.Lines.{spaced_all}
use Rattle.gl_card.proofs.line.put_words.Given as goal

abbrev pub invariant-loop-word : goal.invariant-loop-word
invariant-loop-word l = l.line.items ≡ l.initial.line.items ++ spaced_all (take l.word-index l.words)
