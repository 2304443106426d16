use Rattle.gl_lib.proofs.WordLaws.{word_step, word_done}
use Rattle.gl_lib.proofs.words.add_words.Goals as goal

pub loop-model-preserved : goal.loop-model-preserved
loop-model-preserved c = λ name. word_step _ _ c.model-item.result name _ _ _ c.loop-model-test.true c.model-item.is (c.in_ok-add_word.ensures.noted name) (c.loop-model.invariant name)

pub returns : goal.returns
returns c = record { noted = λ name. word_done _ _ name _ _ c.loop-model-test.false (c.loop-model.invariant name) }
