use Rattle.std.proofs.Common.{◌++◌, [], ◌∷◌}
use Rattle.std.specs.Prelude.{codes}
use Rattle.std.specs.List.{join_with_byte}
use Rattle.std.specs.Fmt.{decimal}
use Rattle.std.proofs.lemmas.Result.{IfOk-equal}
use Rattle.gl_probe.proofs.LineLaws.{front_printed}
use Rattle.gl_probe.proofs.lines.put_front.Goals as goal

pub returns-clause-ok : goal.returns-clause-ok
returns-clause-ok c =
    let out = c.args.out.now.items in
    IfOk-equal c.put-4.result c.put-4.new.out.items (c.put-3.new.out.items ++ codes " key") (out ++ join_with_byte 32 (codes "round" ∷ decimal c.args.round ∷ codes "cell" ∷ c.args.name.now ∷ codes "key" ∷ [])) c.put-4.ensures.ok
    (front_printed out c.put.new.out.items c.put_number.new.out.items c.put-2.new.out.items c.put-3.new.out.items (decimal c.args.round) c.args.name.now c.in_ok-put.ensures.ok c.in_ok-put_number.ensures.ok c.in_ok-put-2.ensures.ok c.in_ok-put-3.ensures.ok)
