use Rattle.std.proofs.Common.{◌≡◌, take, map}
use Rattle.gl_text.specs.Flattening.{path_text}
use Rattle.gl_flat.specs.Lengths.{after}
use Rattle.gl_flat.proofs.length.add_path.Given as goal

abbrev pub invariant-loop-name : goal.invariant-loop-name
invariant-loop-name l = l.sum ≡ after l.total (path_text (map (λ n. n.now) (take l.name-index l.path)))
