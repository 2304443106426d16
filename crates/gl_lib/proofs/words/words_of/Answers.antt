use Rattle.std.proofs.Common.{ap}
use Rattle.std.specs.Map.{lookup}
use Rattle.gl_text.specs.LogicalLines.{same_text}
use Rattle.gl_lib.proofs.WordLaws.{words_read}
use Rattle.gl_lib.proofs.words.words_of.Goals as goal

pub returns : goal.returns
returns c = record { words = λ name. words_read _ _ _ _ _ name (ap (lookup (same_text name)) c.new-words.ensures.empty) (c.in_ok-add_words.ensures.noted name) (c.in_ok-add_words-2.ensures.noted name) }
