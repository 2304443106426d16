use Rattle.std.proofs.Common.{◌≡◌, ℕ, ◌<◌, length, drop, get_or, false}
use Rattle.std.specs.Prelude.{◌||◌}
use Rattle.gl_match.specs.Graph.{is_in}
use Rattle.gl_graph.proofs.marks.mark_all.Given as goal

abbrev pub invariant-loop-net : goal.invariant-loop-net
invariant-loop-net l = record {
  count : length l.table.items ≡ length l.fn.table.items;
  marked : (k : ℕ) → k < length l.fn.table.items → (get_or l.table.items k false || is_in (drop l.net-index l.listed) k) ≡ (get_or l.fn.table.items k false || is_in l.listed k);
}
