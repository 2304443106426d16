use Rattle.std.proofs.Common.{◌++◌, ◌∷◌}
use Rattle.std.specs.Prelude.{codes}
use Rattle.std.proofs.lemmas.Result.{IfOk-equal}
use Rattle.gl_base.specs.Reports.{line}
use Rattle.gl_base.specs.RoundReports.{reason_words}
use Rattle.gl_cells.specs.Skips.{skip_value}
use Rattle.gl_report.proofs.LineLaws.{skipped_printed}
use Rattle.gl_report.proofs.lines.put_skipped.Goals as goal

pub returns : goal.returns
returns c =
    let out = c.args.out.now.items in
    let reason = reason_words (skip_value c.args.skip.now) in
    record {
      ok = IfOk-equal c.put-4.result c.put-4.new.out.items (c.put_reason.new.out.items ++ codes "\n") (out ++ line (codes "cell" ∷ c.args.name.now ∷ codes "skipped" ∷ reason)) c.put-4.ensures.ok
          (skipped_printed out c.put.new.out.items c.put-2.new.out.items c.put-3.new.out.items c.put_reason.new.out.items c.args.name.now reason c.in_ok-put.ensures.ok c.in_ok-put-2.ensures.ok c.in_ok-put-3.ensures.ok c.in_ok-put_reason.ensures.ok);
    }
