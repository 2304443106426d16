use Rattle.std.proofs.Common.{◌≡◌, ◌++◌, ℕ, List, drop}
use Rattle.std.specs.Prelude.{filter}
use Rattle.std.specs.List.{enumerate_from}
use Rattle.gl_named.specs.Plans.{inner_by}
use Rattle.gl_named.proofs.plan.inner_nets.Given as goal

abbrev pub invariant-loop-net : goal.invariant-loop-net
invariant-loop-net l = record {
  so_far : l.inner.items ++ filter (λ (n : ℕ × List ℕ). inner_by l.rails.keys l.ports.keys n.1) (enumerate_from l.number (drop l.net-index l.nets)) ≡ filter (λ (n : ℕ × List ℕ). inner_by l.rails.keys l.ports.keys n.1) (enumerate_from 0 l.nets);
  count : l.number ≡ l.net-index;
}
