use Rattle.std.proofs.Common.{◌≡◌, ◌++◌, take}
use Rattle.gl_card.specs.Lines.{spaced_all}
use Rattle.gl_write.proofs.words.put_words.Given as goal

abbrev pub invariant-loop-word : goal.invariant-loop-word
invariant-loop-word l = l.out.items ≡ l.fn.out.items ++ spaced_all (take l.word-index l.words)
