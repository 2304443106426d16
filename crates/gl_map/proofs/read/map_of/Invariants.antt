use Rattle.std.proofs.Common.{◌≡◌, ◌+◌, [], map, take, drop}
use Rattle.gl_lifting.specs.MapReading.{map_by}
use Rattle.gl_map.specs.Rows.{row_value}
use Rattle.gl_map.specs.Checks.{named}
use Rattle.gl_map.proofs.read.map_of.Given as goal

abbrev pub invariant-loop-row : goal.invariant-loop-row
invariant-loop-row l = record {
  same : named l.line (map row_value (take l.row-index l.rows)) (map row_value (drop l.row-index l.rows)) ≡ named 2 [] (map row_value l.rows);
  tables : l.tables ≡ map_by (map row_value (take l.row-index l.rows));
  count : l.line ≡ l.row-index + 2;
}
