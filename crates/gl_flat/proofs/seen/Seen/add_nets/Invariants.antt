use Rattle.std.proofs.Common.{◌≡◌, take, map, filter, Ok}
use Rattle.gl_text.specs.Flattening.{net}
use Rattle.gl_flat.specs.SeenNames.{may_clash, seen_all}
use Rattle.gl_flat.proofs.seen.Seen.add_nets.Given as goal

abbrev pub invariant-loop-added : goal.invariant-loop-added
invariant-loop-added l = seen_all l.fn.self (filter may_clash (map net (take l.added-index l.nets))) ≡ Ok l.self
