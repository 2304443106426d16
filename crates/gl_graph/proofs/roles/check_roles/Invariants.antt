use Rattle.std.proofs.Common.{◌≡◌, length, take, drop}
use Rattle.gl_graph.specs.Built.{pattern_of}
use Rattle.gl_graph.specs.Faults.{first_in, role_fault}
use Rattle.gl_graph.specs.Kept.{IsRoleTable}
use Rattle.gl_graph.proofs.roles.check_roles.Given as goal

abbrev pub invariant-loop-net : goal.invariant-loop-net
invariant-loop-net l = record {
  count : length l.seen.items ≡ l.rails;
  seen : IsRoleTable (take l.net l.roles) l.rails l.seen.items;
  fault : first_in (role_fault l.rails (pattern_of l.devices l.roles l.ports)) l.net (drop l.net l.roles) ≡ first_in (role_fault l.rails (pattern_of l.devices l.roles l.ports)) 0 l.roles;
}
