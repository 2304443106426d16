use Rattle.std.proofs.Common.{◌≡◌, ◌+◌, ◌++◌, length}
use Rattle.std.specs.List.{enumerate_from, zip}
use Rattle.gl_report.specs.Pieces.{instance_lines}
use Rattle.gl_report.proofs.cells.put_instances.Given as goal

abbrev pub invariant-loop-item : goal.invariant-loop-item
invariant-loop-item l = record {
  text : l.out.items ++ instance_lines l.names l.cell (enumerate_from (l.number + 1) (zip l.item-iterator.a.rest.now l.item-iterator.b.rest.now)) ≡ l.fn.out.items ++ instance_lines l.names l.cell (enumerate_from 1 (zip l.items l.picks));
  number : l.number ≡ length l.yielded;
}
