use Rattle.std.proofs.Common.{◌≡◌, ◌++◌, length}
use Rattle.std.specs.Prelude.{flat_map}
use Rattle.std.specs.List.{enumerate_from, zip}
use Rattle.gl_report.specs.Shown.{told_at, told_of}
use Rattle.gl_report.specs.Pieces.{parts_text}
use Rattle.gl_report.proofs.cells.put_cells.Given as goal

abbrev pub invariant-loop-sub : goal.invariant-loop-sub
invariant-loop-sub l = record {
  text : l.out.items ++ parts_text l.names (flat_map (told_at l.level l.cells) (enumerate_from l.number (zip l.sub-iterator.a.rest.now l.sub-iterator.b.rest.now))) ≡ l.fn.out.items ++ parts_text l.names (told_of l.level (zip l.subs l.library) l.cells);
  number : l.number ≡ length l.yielded;
}
