use Rattle.std.proofs.Common.{◌≡◌, take, map, filter, Ok}
use Rattle.gl_text.specs.Flattening.{net, top_net}
use Rattle.gl_flat.specs.SeenNames.{may_clash, seen_all}
use Rattle.gl_flat.proofs.seen.Seen.add_top_nets.Given as goal

abbrev pub invariant-loop-name : goal.invariant-loop-name
invariant-loop-name l = seen_all l.fn.self (filter may_clash (map net (map top_net (take l.name-index l.names)))) ≡ Ok l.self
