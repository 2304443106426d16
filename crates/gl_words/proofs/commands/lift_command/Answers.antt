use Rattle.std.proofs.Common.{ap, codes, ◌∙◌}
use Rattle.std.proofs.lemmas.Result.{IfOk-weaker}
use Rattle.clap.specs.Words.{App}
use Rattle.gl_words.specs.Commands.{with_word, with_option, lift_app}
use Rattle.gl_words.proofs.commands.lift_command.Goals as goal

pub returns : goal.returns
unfolding lift_app
returns c =
    let first = c.in_ok-command.ensures.app ∙ ap (λ (a : App). with_word a (codes "deck")) c.new.ensures.app in
    let second = c.in_ok-command-2.ensures.app ∙ ap (λ (a : App). with_word a (codes "library")) first in
    let third = c.in_ok-command-3.ensures.app ∙ ap (λ (a : App). with_word a (codes "lifted")) second in
    let fourth = c.in_ok-command-4.ensures.app ∙ ap (λ (a : App). with_word a (codes "map")) third in
    let fifth = c.in_ok-command-5.ensures.app ∙ ap (λ (a : App). with_word a (codes "report")) fourth in
    let sixth = c.in_ok-command-6.ensures.app ∙ ap (λ (a : App). with_option a (codes "top")) fifth in
    record { app = IfOk-weaker c.add_option-2.result _ _ (λ r h. h ∙ ap (λ (a : App). with_option a (codes "keep")) sixth) c.add_option-2.ensures.app }
