use Rattle.std.proofs.Common.{◌≡◌, take, map}
use Rattle.gl_text.specs.Flattening.{net_of}
use Rattle.gl_flat.specs.Ways.{place_of}
use Rattle.gl_flat.proofs.way.nets_at.Given as goal

abbrev pub invariant-loop-name : goal.invariant-loop-name
invariant-loop-name l = l.nets.items ≡ map (net_of l.rails.keys (place_of l.rails.keys l.way)) (take l.name-index l.names)
