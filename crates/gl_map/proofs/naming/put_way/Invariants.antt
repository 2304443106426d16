use Rattle.std.proofs.Common.{◌≡◌, ◌++◌, take}
use Rattle.gl_text.specs.Flattening.{path_text}
use Rattle.gl_map.proofs.naming.put_way.Given as goal

abbrev pub invariant-loop-name : goal.invariant-loop-name
invariant-loop-name l = l.out.items ≡ l.fn.out.items ++ path_text (take l.name-index l.way)
