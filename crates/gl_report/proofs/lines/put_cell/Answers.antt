use Rattle.std.proofs.Common.{◌++◌, [], ◌∷◌}
use Rattle.std.specs.Prelude.{codes}
use Rattle.std.specs.Fmt.{decimal}
use Rattle.std.proofs.lemmas.Result.{IfOk-equal}
use Rattle.gl_base.specs.Reports.{line, cell_words}
use Rattle.gl_report.proofs.LineLaws.{cell_printed}
use Rattle.gl_report.proofs.lines.put_cell.Goals as goal

pub returns : goal.returns
returns c =
    let out = c.args.out.now.items in
    record {
      ok = IfOk-equal c.put-2.result c.put-2.new.out.items (c.put_number.new.out.items ++ codes "\n") (out ++ line (cell_words c.args.name.now c.args.ports c.args.instances ++ codes "chosen" ∷ decimal c.args.chosen ∷ [])) c.put-2.ensures.ok
          (cell_printed out c.put_counts.new.out.items c.put.new.out.items c.put_number.new.out.items c.args.name.now (decimal c.args.ports) (decimal c.args.instances) (decimal c.args.chosen) c.in_ok-put_counts.ensures.ok c.in_ok-put.ensures.ok c.in_ok-put_number.ensures.ok);
    }
