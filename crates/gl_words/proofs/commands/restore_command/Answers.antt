use Rattle.std.proofs.Common.{ap, codes, ◌∙◌}
use Rattle.std.proofs.lemmas.Result.{IfOk-weaker}
use Rattle.clap.specs.Words.{App}
use Rattle.gl_words.specs.Commands.{with_word, with_option, restore_app}
use Rattle.gl_words.proofs.commands.restore_command.Goals as goal

pub returns : goal.returns
unfolding restore_app
returns c =
    let first = c.in_ok-command.ensures.app ∙ ap (λ (a : App). with_word a (codes "lifted")) c.new.ensures.app in
    let second = c.in_ok-command-2.ensures.app ∙ ap (λ (a : App). with_word a (codes "map")) first in
    let third = c.in_ok-command-3.ensures.app ∙ ap (λ (a : App). with_word a (codes "out")) second in
    record { app = IfOk-weaker c.add_option.result _ _ (λ r h. h ∙ ap (λ (a : App). with_option a (codes "top")) third) c.add_option.ensures.app }
