use Rattle.std.proofs.Common.{◌≡◌, ◌++◌, drop}
use Rattle.std.specs.Prelude.{codes, flat_map}
use Rattle.gl_lifting.specs.NameMaps.{map_line}
use Rattle.gl_named.specs.Firsts.{at_number}
use Rattle.gl_named.specs.Walks.{renamed_from}
use Rattle.gl_named.proofs.text.put_nets.Given as goal

abbrev pub invariant-loop-old : goal.invariant-loop-old
invariant-loop-old l = record {
  so_far : l.out.items ++ flat_map (map_line (codes "net")) (renamed_from (at_number l.table) l.number (drop l.old-index l.nets)) ≡ l.fn.out.items ++ flat_map (map_line (codes "net")) (renamed_from (at_number l.table) 0 l.nets);
  count : l.number ≡ l.old-index;
}
