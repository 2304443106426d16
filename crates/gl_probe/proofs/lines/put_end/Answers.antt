use Rattle.std.proofs.Common.{◌++◌, [], ◌∷◌}
use Rattle.std.specs.Prelude.{codes}
use Rattle.std.specs.List.{join_with_byte}
use Rattle.std.specs.Fmt.{decimal}
use Rattle.std.proofs.lemmas.Result.{IfOk-equal}
use Rattle.gl_probe.proofs.LineLaws.{end_printed}
use Rattle.gl_probe.proofs.lines.put_end.Goals as goal

pub returns-clause-ok : goal.returns-clause-ok
returns-clause-ok c =
    let out = c.args.out.now.items in
    IfOk-equal c.put-3.result c.put-3.new.out.items (c.put_number-2.new.out.items ++ codes "\n") (out ++ (join_with_byte 32 (codes " depth" ∷ decimal c.args.depth ∷ codes "candidates" ∷ decimal c.args.candidates ∷ []) ++ codes "\n")) c.put-3.ensures.ok
    (end_printed out c.put.new.out.items c.put_number.new.out.items c.put-2.new.out.items c.put_number-2.new.out.items (decimal c.args.depth) (decimal c.args.candidates) c.in_ok-put.ensures.ok c.in_ok-put_number.ensures.ok c.in_ok-put-2.ensures.ok c.in_ok-put_number-2.ensures.ok)
