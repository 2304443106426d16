use Rattle.gl_map.proofs.WordLaws.{many_words}
use Rattle.gl_map.proofs.row.behind_word.Goals as goal

pub returns-in-Some : goal.returns-in-Some
returns-in-Some c = record { row = many_words c.args.word.now c.in_ok-new.new.now c.in_ok-new.old.now c.args.behind.now c.in-Some.field-0.0.now c.in-Some.field-0.1.now c.in_ok-new.ensures.words c.in-Some.ensures.words }
