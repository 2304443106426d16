use Rattle.std.proofs.Common.{ap, codes, ◌∙◌}
use Rattle.std.proofs.lemmas.Result.{IfOk-weaker}
use Rattle.clap.specs.Words.{App}
use Rattle.gl_words.specs.Commands.{with_word, with_option, flat_app}
use Rattle.gl_words.proofs.commands.flat_command.Goals as goal

pub returns : goal.returns
unfolding flat_app
returns c =
    let first = c.in_ok-command.ensures.app ∙ ap (λ (a : App). with_word a (codes "deck")) c.new.ensures.app in
    let second = c.in_ok-command-2.ensures.app ∙ ap (λ (a : App). with_word a (codes "out")) first in
    record { app = IfOk-weaker c.add_option.result _ _ (λ r h. h ∙ ap (λ (a : App). with_option a (codes "top")) second) c.add_option.ensures.app }
