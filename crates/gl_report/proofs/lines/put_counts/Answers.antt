use Rattle.std.proofs.Common.{◌++◌}
use Rattle.std.specs.List.{join_with_byte}
use Rattle.std.specs.Fmt.{decimal}
use Rattle.std.proofs.lemmas.Result.{IfOk-equal}
use Rattle.gl_base.specs.Reports.{cell_words}
use Rattle.gl_report.proofs.LineLaws.{counts_printed}
use Rattle.gl_report.proofs.lines.put_counts.Goals as goal

pub returns : goal.returns
returns c =
    let out = c.args.out.now.items in
    record {
      ok = IfOk-equal c.put_number-2.result c.put_number-2.new.out.items (c.put-4.new.out.items ++ decimal c.args.instances) (out ++ join_with_byte 32 (cell_words c.args.name.now c.args.ports c.args.instances)) c.put_number-2.ensures.ok
          (counts_printed out c.put.new.out.items c.put-2.new.out.items c.put-3.new.out.items c.put_number.new.out.items c.put-4.new.out.items c.args.name.now (decimal c.args.ports) (decimal c.args.instances) c.in_ok-put.ensures.ok c.in_ok-put-2.ensures.ok c.in_ok-put-3.ensures.ok c.in_ok-put_number.ensures.ok c.in_ok-put-4.ensures.ok);
    }
