use Rattle.std.proofs.Common.{◌≡◌, ◌++◌, take, map}
use Rattle.gl_base.specs.Reports.{name_at}
use Rattle.gl_card.specs.Lines.{spaced_all}
use Rattle.gl_write.proofs.words.put_numbers.Given as goal

abbrev pub invariant-loop-number : goal.invariant-loop-number
invariant-loop-number l = l.out.items ≡ l.fn.out.items ++ spaced_all (map (name_at l.names) (take l.number-index l.numbers))
