use Rattle.std.proofs.Common.{◌≡◌, ◌++◌, drop, map}
use Rattle.gl_base.specs.Libraries.{cell_of}
use Rattle.gl_cells.specs.Limited.{limits_cause}
use Rattle.gl_cells.proofs.cells.lib_cells.Given as goal

abbrev pub invariant-loop-place : goal.invariant-loop-place
invariant-loop-place l = record {
  said : l.said.items ++ map (cell_of l.subs) (drop l.place l.subs) ≡ map (cell_of l.subs) l.subs;
  fits : limits_cause l.subs (drop l.place l.subs) ≡ limits_cause l.subs l.subs;
}
