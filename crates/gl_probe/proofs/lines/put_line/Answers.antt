use Rattle.std.proofs.Common.{◌++◌, [], ◌∷◌, Some}
use Rattle.std.specs.Prelude.{codes}
use Rattle.std.specs.List.{join_with_byte}
use Rattle.std.specs.Fmt.{decimal}
use Rattle.std.proofs.lemmas.Result.{IfOk-equal}
use Rattle.gl_key.specs.Best.{seen}
use Rattle.gl_probe.specs.Probes.{vertex_word, key_line}
use Rattle.gl_probe.proofs.LineLaws.{line_printed}
use Rattle.gl_probe.proofs.lines.put_line.Goals as goal

pub returns-clause-ok : goal.returns-clause-ok
returns-clause-ok c =
    let out = c.args.out.now.items in
    let cell = c.args.cell.now in
    let key = seen c.args.key.now in
    let last = join_with_byte 32 (codes " depth" ∷ decimal key.depth ∷ codes "candidates" ∷ decimal key.candidates ∷ []) ++ codes "\n" in
    IfOk-equal c.put_end.result c.put_end.new.out.items (c.put_vertex.new.out.items ++ last) (out ++ key_line c.args.round cell (Some key)) c.put_end.ensures.ok
    (line_printed out c.put_head.new.out.items c.put.new.out.items c.put_vertex.new.out.items (decimal c.args.round) cell.head.name (vertex_word cell key.vertex) (decimal key.depth) (decimal key.candidates) c.in_ok-put_head.ensures.ok c.in_ok-put.ensures.ok c.in_ok-put_vertex.ensures.ok)
