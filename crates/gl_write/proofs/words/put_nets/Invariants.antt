use Rattle.std.proofs.Common.{◌≡◌, ◌++◌, take, map}
use Rattle.gl_base.specs.Reports.{name_at}
use Rattle.gl_card.specs.Lines.{spaced_all}
use Rattle.gl_write.proofs.words.put_nets.Given as goal

abbrev pub invariant-loop-net : goal.invariant-loop-net
invariant-loop-net l = l.out.items ≡ l.fn.out.items ++ spaced_all (map (name_at l.names) (take l.net-index l.nets))
