use Rattle.std.proofs.Common.{take}
use Rattle.gl_card.specs.Lines.{spaced_all}
use Rattle.gl_card.proofs.PrintLaws.{front_stays}
use Rattle.gl_card.proofs.line.put_words.Goals as goal

pub returns-in_err-put_word-clause-front : goal.returns-in_err-put_word-clause-front
returns-in_err-put_word-clause-front c =
    front_stays c.args.line.now.items c.loop-word.line.items c.put_word.new.line.items (spaced_all (take c.loop-word.word-index c.args.words.now)) c.loop-word.invariant c.in_err-put_word.ensures.front
