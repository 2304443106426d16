use Rattle.std.proofs.Common.{◌≡◌, drop}
use Rattle.gl_graph.specs.Faults.{first_in, net_fault}
use Rattle.gl_graph.proofs.checks.check_nets.Given as goal

abbrev pub invariant-loop-place : goal.invariant-loop-place
invariant-loop-place l = first_in (net_fault l.nets l.device) l.place (drop l.place l.listed) ≡ first_in (net_fault l.nets l.device) 0 l.listed
