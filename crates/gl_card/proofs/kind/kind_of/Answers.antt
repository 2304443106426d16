use Rattle.std.proofs.Common.{◌∙◌, sym, ap}
use Rattle.gl_text.specs.LogicalLines.{folded}
use Rattle.gl_text.specs.Cards.{word_in, dot_words}
use Rattle.gl_card.specs.Kinds.{kind_value}
use Rattle.gl_card.proofs.KindLaws.{dot_is}
use Rattle.gl_card.proofs.kind.kind_of.Goals as goal

pub returns-in-46-clause-kind : goal.returns-in-46-clause-kind
returns-in-46-clause-kind c =
    let word = c.dot_kind.ensures.kind ∙ ap (λ w. word_in dot_words (folded w)) c.first_word.ensures.word in
    dot_is c.args.text.now c.args.fields.now c.in-Some.first.now (kind_value c.dot_kind.result) c.requires.fields c.in-Some.ensures.value (sym c.fold.ensures.folded ∙ c.in-46.is) word
