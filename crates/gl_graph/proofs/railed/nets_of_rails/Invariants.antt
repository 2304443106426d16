use Rattle.std.proofs.Common.{◌≡◌, length, take, drop}
use Rattle.gl_graph.specs.Faults.{first_in, rail_fault}
use Rattle.gl_graph.specs.Kept.{IsRailTable}
use Rattle.gl_graph.proofs.railed.nets_of_rails.Given as goal

abbrev pub invariant-loop-rail : goal.invariant-loop-rail
invariant-loop-rail l = record {
  count : length l.table.items ≡ l.nets;
  marked : IsRailTable (take l.rail l.rails) l.nets l.table.items;
  fault : first_in (rail_fault l.nets l.rails) l.rail (drop l.rail l.rails) ≡ first_in (rail_fault l.nets l.rails) 0 l.rails;
}
