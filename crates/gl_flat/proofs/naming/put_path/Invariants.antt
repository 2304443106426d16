use Rattle.std.proofs.Common.{◌≡◌, ◌++◌, take, map}
use Rattle.gl_text.specs.Flattening.{path_text}
use Rattle.gl_flat.proofs.naming.put_path.Given as goal

abbrev pub invariant-loop-name : goal.invariant-loop-name
invariant-loop-name l = l.out.items ≡ l.fn.out.items ++ path_text (map (λ n. n.now) (take l.name-index l.path))
