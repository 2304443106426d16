use Rattle.std.proofs.Common.{◌∙◌, ◌++◌, ap, sym}
use Rattle.std.specs.Prelude.{option_to_list}
use Rattle.gl_restore.specs.Backs.{back_of}
use Rattle.gl_restore.proofs.BackLaws.{back_more}
use Rattle.gl_restore.proofs.back.collect_backs.Goals as goal

pub loop-line-preserved : goal.loop-line-preserved
loop-line-preserved c =
    c.in_ok-push_back.ensures.pushed
    ∙ ap (λ bs. bs ++ option_to_list (back_of c.args.devices.now c.line-item.result)) c.loop-line.invariant
    ∙ sym (back_more c.args.devices.now c.args.lines.now c.loop-line.line-index c.line-item.result c.loop-line-test.true c.line-item.is)
