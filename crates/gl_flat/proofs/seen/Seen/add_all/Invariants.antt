use Rattle.std.proofs.Common.{◌≡◌, take, filter, flat_map, Ok}
use Rattle.gl_text.specs.Flattening.{bearers}
use Rattle.gl_flat.specs.SeenNames.{may_clash, seen_all}
use Rattle.gl_flat.proofs.seen.Seen.add_all.Given as goal

abbrev pub invariant-loop-added : goal.invariant-loop-added
invariant-loop-added l = seen_all l.fn.self (filter may_clash (flat_map bearers (take l.added-index l.devices))) ≡ Ok l.self
