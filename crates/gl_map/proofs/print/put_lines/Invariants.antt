use Rattle.std.proofs.Common.{◌≡◌, ◌++◌, take}
use Rattle.std.specs.Prelude.{flat_map}
use Rattle.gl_lifting.specs.NameMaps.{map_line}
use Rattle.gl_map.proofs.print.put_lines.Given as goal

abbrev pub invariant-loop-new : goal.invariant-loop-new
invariant-loop-new l = l.out.items ≡ l.fn.out.items ++ flat_map (map_line l.word) (take l.new-index l.names)
