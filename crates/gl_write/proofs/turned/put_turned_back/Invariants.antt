use Rattle.std.proofs.Common.{◌≡◌, ◌==◌, ◌++◌, map}
use Rattle.std.specs.List.{position_or_len, range_with_len}
use Rattle.gl_card.specs.Lines.{spaced_all}
use Rattle.gl_base.specs.Reports.{name_at}
use Rattle.gl_write.proofs.turned.put_turned_back.Given as goal

abbrev pub invariant-loop-place : goal.invariant-loop-place
invariant-loop-place l = l.out.items ≡ l.fn.out.items ++ spaced_all (map (λ place. name_at l.nodes (position_or_len (λ turned. turned == place) l.turn)) (range_with_len 0 l.place))
