use Rattle.std.proofs.Common.{◌∙◌, sym}
use Rattle.gl_map.proofs.WordLaws.{first_word, one_word}
use Rattle.gl_map.proofs.words.split_word.Goals as goal

pub returns-in-Some : goal.returns-in-Some
returns-in-Some c = record { words = first_word c.args.text.now c.in-Some.end (sym c.space.ensures.first ∙ c.in-Some.is) }

pub returns-in-None : goal.returns-in-None
returns-in-None c = record { words = one_word c.args.text.now (sym c.space.ensures.first ∙ c.in-None.is) }
