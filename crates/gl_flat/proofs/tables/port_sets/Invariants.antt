use Rattle.std.proofs.Common.{◌≡◌, take, map}
use Rattle.gl_text.specs.Decks.{once}
use Rattle.gl_flat.proofs.tables.port_sets.Given as goal

abbrev pub invariant-loop-sub : goal.invariant-loop-sub
invariant-loop-sub l = map (λ s. s.keys) l.sets.items ≡ map (λ s. once s.head.ports) (take l.sub-index l.subs)
